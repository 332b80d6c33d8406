-- The functions of WGSL that `detail` stands for, by their places from 0; and what each takes and gives.
use Rattle.std.specs.Prelude.{List, [], ◌∷◌}
use Rattle.ir_leaves.specs.declared.scalars.ScalarKind.TheVariants.{Sint, Uint, Float}
use Rattle.ir_leaves.specs.declared.scalars.VectorSize.TheVariants.{Bi, Quad}
use Rattle.layer_forms.specs.declared.math.MathFunction.{MathFunction}
use Rattle.layer_forms.specs.declared.math.MathFunction.TheVariants as f
use Rattle.layer_forms.specs.declared.math.MathClass.{MathClass}
use Rattle.layer_forms.specs.declared.math.MathClass.TheVariants as class

unfoldable pub functions : List MathFunction
functions =
    f.Abs ∷ f.Min ∷ f.Max ∷ f.Clamp ∷ f.Saturate ∷ f.Cos ∷ f.Cosh ∷ f.Sin ∷ f.Sinh ∷ f.Tan ∷ f.Tanh ∷ f.Acos
    ∷ f.Asin ∷ f.Atan ∷ f.Atan2 ∷ f.Asinh ∷ f.Acosh ∷ f.Atanh ∷ f.Radians ∷ f.Degrees ∷ f.Ceil ∷ f.Floor
    ∷ f.Round ∷ f.Fract ∷ f.Trunc ∷ f.Modf ∷ f.Frexp ∷ f.Ldexp ∷ f.Exp ∷ f.Exp2 ∷ f.Log ∷ f.Log2 ∷ f.Pow
    ∷ f.Dot ∷ f.Dot4I8Packed ∷ f.Dot4U8Packed ∷ f.Cross ∷ f.Distance ∷ f.Length ∷ f.Normalize ∷ f.FaceForward
    ∷ f.Reflect ∷ f.Refract ∷ f.Sign ∷ f.Fma ∷ f.Mix ∷ f.Step ∷ f.SmoothStep ∷ f.Sqrt ∷ f.InverseSqrt
    ∷ f.Transpose ∷ f.Determinant ∷ f.QuantizeToF16 ∷ f.CountTrailingZeros ∷ f.CountLeadingZeros
    ∷ f.CountOneBits ∷ f.ReverseBits ∷ f.ExtractBits ∷ f.InsertBits ∷ f.FirstTrailingBit ∷ f.FirstLeadingBit
    ∷ f.Pack4x8snorm ∷ f.Pack4x8unorm ∷ f.Pack2x16snorm ∷ f.Pack2x16unorm ∷ f.Pack2x16float ∷ f.Pack4xI8
    ∷ f.Pack4xI8Clamp ∷ f.Pack4xU8 ∷ f.Pack4xU8Clamp ∷ f.Unpack4x8snorm ∷ f.Unpack4x8unorm ∷ f.Unpack2x16snorm
    ∷ f.Unpack2x16unorm ∷ f.Unpack2x16float ∷ f.Unpack4xI8 ∷ f.Unpack4xU8
    ∷ []

-- what a function takes and gives
abbrev pub class_of : MathFunction → MathClass
class_of f.Abs = class.Numbers 1
class_of f.Min = class.Numbers 2
class_of f.Max = class.Numbers 2
class_of f.Clamp = class.Numbers 3
class_of f.Saturate = class.Floats 1
class_of f.Cos = class.Floats 1
class_of f.Cosh = class.Floats 1
class_of f.Sin = class.Floats 1
class_of f.Sinh = class.Floats 1
class_of f.Tan = class.Floats 1
class_of f.Tanh = class.Floats 1
class_of f.Acos = class.Floats 1
class_of f.Asin = class.Floats 1
class_of f.Atan = class.Floats 1
class_of f.Atan2 = class.Floats 2
class_of f.Asinh = class.Floats 1
class_of f.Acosh = class.Floats 1
class_of f.Atanh = class.Floats 1
class_of f.Radians = class.Floats 1
class_of f.Degrees = class.Floats 1
class_of f.Ceil = class.Floats 1
class_of f.Floor = class.Floats 1
class_of f.Round = class.Floats 1
class_of f.Fract = class.Floats 1
class_of f.Trunc = class.Floats 1
class_of f.Modf = class.Split
class_of f.Frexp = class.Split
class_of f.Ldexp = class.Ldexp
class_of f.Exp = class.Floats 1
class_of f.Exp2 = class.Floats 1
class_of f.Log = class.Floats 1
class_of f.Log2 = class.Floats 1
class_of f.Pow = class.Floats 2
class_of f.Dot = class.Dot
class_of f.Dot4I8Packed = class.PackedDot Sint
class_of f.Dot4U8Packed = class.PackedDot Uint
class_of f.Cross = class.Cross
class_of f.Distance = class.Distance 2
class_of f.Length = class.Distance 1
class_of f.Normalize = class.FloatVectors 1
class_of f.FaceForward = class.FloatVectors 3
class_of f.Reflect = class.FloatVectors 2
class_of f.Refract = class.Refract
class_of f.Sign = class.Signed
class_of f.Fma = class.Floats 3
class_of f.Mix = class.Mix
class_of f.Step = class.Floats 2
class_of f.SmoothStep = class.Floats 3
class_of f.Sqrt = class.Floats 1
class_of f.InverseSqrt = class.Floats 1
class_of f.Transpose = class.Transpose
class_of f.Determinant = class.Determinant
class_of f.QuantizeToF16 = class.Quantize
class_of f.CountTrailingZeros = class.Bits
class_of f.CountLeadingZeros = class.Bits
class_of f.CountOneBits = class.Bits
class_of f.ReverseBits = class.Bits
class_of f.ExtractBits = class.ExtractBits
class_of f.InsertBits = class.InsertBits
class_of f.FirstTrailingBit = class.Bits
class_of f.FirstLeadingBit = class.Bits
class_of f.Pack4x8snorm = class.Pack Quad Float
class_of f.Pack4x8unorm = class.Pack Quad Float
class_of f.Pack2x16snorm = class.Pack Bi Float
class_of f.Pack2x16unorm = class.Pack Bi Float
class_of f.Pack2x16float = class.Pack Bi Float
class_of f.Pack4xI8 = class.Pack Quad Sint
class_of f.Pack4xI8Clamp = class.Pack Quad Sint
class_of f.Pack4xU8 = class.Pack Quad Uint
class_of f.Pack4xU8Clamp = class.Pack Quad Uint
class_of f.Unpack4x8snorm = class.Unpack Quad Float
class_of f.Unpack4x8unorm = class.Unpack Quad Float
class_of f.Unpack2x16snorm = class.Unpack Bi Float
class_of f.Unpack2x16unorm = class.Unpack Bi Float
class_of f.Unpack2x16float = class.Unpack Bi Float
class_of f.Unpack4xI8 = class.Unpack Quad Sint
class_of f.Unpack4xU8 = class.Unpack Quad Uint
