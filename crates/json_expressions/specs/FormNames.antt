-- The names in named forms, each with what it counts in `detail` (docs/TYPES.md has what `detail` stands for).
use Rattle.std.specs.Prelude.{ℕ, List, [], ◌∷◌, codes, ⊤}
use Rattle.json_expressions.specs.declared.forms.LevelName.{LevelName}
use Rattle.json_expressions.specs.declared.forms.LevelName.TheVariants as level_name
use Rattle.json_expressions.specs.declared.forms.NameTable.{NameTable}
use Rattle.json_expressions.specs.declared.forms.NameTable.TheVariants as table

abbrev pub vector_sizes : List (List ℕ × ℕ)
vector_sizes = (codes "Bi", 0) ∷ (codes "Tri", 1) ∷ (codes "Quad", 2) ∷ []

abbrev pub swizzle_sizes : List (List ℕ × ℕ)
swizzle_sizes = (codes "Bi", 0) ∷ (codes "Tri", 256) ∷ (codes "Quad", 512) ∷ []

abbrev pub components : List (List ℕ × ℕ)
components = (codes "X", 0) ∷ (codes "Y", 1) ∷ (codes "Z", 2) ∷ (codes "W", 3) ∷ []

abbrev pub unary_operators : List (List ℕ × ℕ)
unary_operators = (codes "Negate", 0) ∷ (codes "LogicalNot", 1) ∷ (codes "BitwiseNot", 2) ∷ []

abbrev pub binary_operators : List (List ℕ × ℕ)
binary_operators =
    (codes "Add", 0) ∷ (codes "Subtract", 1) ∷ (codes "Multiply", 2) ∷ (codes "Divide", 3) ∷ (codes "Modulo", 4)
    ∷ (codes "Equal", 5) ∷ (codes "NotEqual", 6) ∷ (codes "Less", 7) ∷ (codes "LessEqual", 8) ∷ (codes "Greater", 9)
    ∷ (codes "GreaterEqual", 10) ∷ (codes "And", 11) ∷ (codes "ExclusiveOr", 12) ∷ (codes "InclusiveOr", 13)
    ∷ (codes "LogicalAnd", 14) ∷ (codes "LogicalOr", 15) ∷ (codes "ShiftLeft", 16) ∷ (codes "ShiftRight", 17) ∷ []

abbrev pub derivative_axes : List (List ℕ × ℕ)
derivative_axes = (codes "X", 0) ∷ (codes "Y", 3) ∷ (codes "Width", 6) ∷ []

abbrev pub derivative_controls : List (List ℕ × ℕ)
derivative_controls = (codes "Coarse", 0) ∷ (codes "Fine", 1) ∷ (codes "None", 2) ∷ []

abbrev pub relational_functions : List (List ℕ × ℕ)
relational_functions = (codes "All", 0) ∷ (codes "Any", 1) ∷ (codes "IsNan", 2) ∷ (codes "IsInf", 3) ∷ []

abbrev pub scalar_kinds : List (List ℕ × ℕ)
scalar_kinds =
    (codes "Sint", 0) ∷ (codes "Uint", 256) ∷ (codes "Float", 512) ∷ (codes "Bool", 768) ∷ (codes "AbstractInt", 1024)
    ∷ (codes "AbstractFloat", 1280) ∷ []

-- the numbers of a cooperative matrix: 6 times that of its columns, 3 times that of its rows, and that of its role; twice the
-- sum stands in `detail` of a load
abbrev pub cooperative_columns : List (List ℕ × ℕ)
cooperative_columns = (codes "Eight", 0) ∷ (codes "Sixteen", 12) ∷ []

abbrev pub cooperative_rows : List (List ℕ × ℕ)
cooperative_rows = (codes "Eight", 0) ∷ (codes "Sixteen", 6) ∷ []

abbrev pub cooperative_roles : List (List ℕ × ℕ)
cooperative_roles = (codes "A", 0) ∷ (codes "B", 2) ∷ (codes "C", 4) ∷ []

-- the levels of a sample that have no operand, and those that have
abbrev pub levels : List (List ℕ × ℕ)
levels = (codes "Auto", 0) ∷ (codes "Zero", 5) ∷ []

abbrev pub level_names : List (List ℕ × LevelName)
level_names =
    (codes "Exact", level_name.Exact) ∷ (codes "Bias", level_name.Bias) ∷ (codes "Gradient", level_name.Gradient) ∷ []

-- what is asked of an image beside its size, and its size
abbrev pub queries : List (List ℕ × ℕ)
queries = (codes "NumLevels", 1) ∷ (codes "NumLayers", 2) ∷ (codes "NumSamples", 3) ∷ []

abbrev pub sizes_asked : List (List ℕ × ⊤)
sizes_asked = (codes "Size", tt) ∷ []

-- the functions of WGSL, by their places in layer_forms/specs/Math
unfoldable pub math_functions : List (List ℕ × ℕ)
math_functions =
    (codes "Abs", 0) ∷ (codes "Min", 1) ∷ (codes "Max", 2) ∷ (codes "Clamp", 3) ∷ (codes "Saturate", 4)
    ∷ (codes "Cos", 5) ∷ (codes "Cosh", 6) ∷ (codes "Sin", 7) ∷ (codes "Sinh", 8) ∷ (codes "Tan", 9)
    ∷ (codes "Tanh", 10) ∷ (codes "Acos", 11) ∷ (codes "Asin", 12) ∷ (codes "Atan", 13) ∷ (codes "Atan2", 14)
    ∷ (codes "Asinh", 15) ∷ (codes "Acosh", 16) ∷ (codes "Atanh", 17) ∷ (codes "Radians", 18) ∷ (codes "Degrees", 19)
    ∷ (codes "Ceil", 20) ∷ (codes "Floor", 21) ∷ (codes "Round", 22) ∷ (codes "Fract", 23) ∷ (codes "Trunc", 24)
    ∷ (codes "Modf", 25) ∷ (codes "Frexp", 26) ∷ (codes "Ldexp", 27) ∷ (codes "Exp", 28) ∷ (codes "Exp2", 29)
    ∷ (codes "Log", 30) ∷ (codes "Log2", 31) ∷ (codes "Pow", 32) ∷ (codes "Dot", 33) ∷ (codes "Dot4I8Packed", 34)
    ∷ (codes "Dot4U8Packed", 35) ∷ (codes "Cross", 36) ∷ (codes "Distance", 37) ∷ (codes "Length", 38)
    ∷ (codes "Normalize", 39) ∷ (codes "FaceForward", 40) ∷ (codes "Reflect", 41) ∷ (codes "Refract", 42)
    ∷ (codes "Sign", 43) ∷ (codes "Fma", 44) ∷ (codes "Mix", 45) ∷ (codes "Step", 46) ∷ (codes "SmoothStep", 47)
    ∷ (codes "Sqrt", 48) ∷ (codes "InverseSqrt", 49) ∷ (codes "Transpose", 50) ∷ (codes "Determinant", 51)
    ∷ (codes "QuantizeToF16", 52) ∷ (codes "CountTrailingZeros", 53) ∷ (codes "CountLeadingZeros", 54)
    ∷ (codes "CountOneBits", 55) ∷ (codes "ReverseBits", 56) ∷ (codes "ExtractBits", 57) ∷ (codes "InsertBits", 58)
    ∷ (codes "FirstTrailingBit", 59) ∷ (codes "FirstLeadingBit", 60) ∷ (codes "Pack4x8snorm", 61)
    ∷ (codes "Pack4x8unorm", 62) ∷ (codes "Pack2x16snorm", 63) ∷ (codes "Pack2x16unorm", 64)
    ∷ (codes "Pack2x16float", 65) ∷ (codes "Pack4xI8", 66) ∷ (codes "Pack4xI8Clamp", 67) ∷ (codes "Pack4xU8", 68)
    ∷ (codes "Pack4xU8Clamp", 69) ∷ (codes "Unpack4x8snorm", 70) ∷ (codes "Unpack4x8unorm", 71)
    ∷ (codes "Unpack2x16snorm", 72) ∷ (codes "Unpack2x16unorm", 73) ∷ (codes "Unpack2x16float", 74)
    ∷ (codes "Unpack4xI8", 75) ∷ (codes "Unpack4xU8", 76) ∷ []

-- the names of a table
abbrev pub names_of : NameTable → List (List ℕ × ℕ)
names_of table.VectorSize = vector_sizes
names_of table.SwizzleSize = swizzle_sizes
names_of table.UnaryOperator = unary_operators
names_of table.BinaryOperator = binary_operators
names_of table.DerivativeAxis = derivative_axes
names_of table.DerivativeControl = derivative_controls
names_of table.RelationalFunction = relational_functions
names_of table.MathFunction = math_functions
names_of table.ScalarKind = scalar_kinds
names_of table.CooperativeColumns = cooperative_columns
names_of table.CooperativeRows = cooperative_rows
names_of table.CooperativeRole = cooperative_roles
