-- Which group of subgroup operations a statement requires of the target.
use Rattle.ir_flags.specs.Bits as bit
use Rattle.ir_statements.specs.declared.operations.SubgroupOperation.{SubgroupOperation}
use Rattle.ir_statements.specs.declared.operations.SubgroupOperation.TheVariants as op
use Rattle.ir_statements.specs.declared.operations.GatherMode.{GatherMode}
use Rattle.ir_statements.specs.declared.operations.GatherMode.TheVariants as mode
use Rattle.ir_flags.specs.declared.valid.SubgroupOperationSet.{SubgroupOperationSet}

-- of a collective operation
abbrev pub operation_group : SubgroupOperation → SubgroupOperationSet
operation_group op.All = bit.VOTE
operation_group op.Any = bit.VOTE
operation_group op.Add = bit.ARITHMETIC
operation_group op.Mul = bit.ARITHMETIC
operation_group op.Min = bit.ARITHMETIC
operation_group op.Max = bit.ARITHMETIC
operation_group op.And = bit.ARITHMETIC
operation_group op.Or = bit.ARITHMETIC
operation_group op.Xor = bit.ARITHMETIC

-- of a gather
abbrev pub gather_group : GatherMode → SubgroupOperationSet
gather_group mode.BroadcastFirst = bit.BALLOT
gather_group (mode.Broadcast h) = bit.BALLOT
gather_group (mode.Shuffle h) = bit.SHUFFLE
gather_group (mode.ShuffleXor h) = bit.SHUFFLE
gather_group (mode.ShuffleUp h) = bit.SHUFFLE_RELATIVE
gather_group (mode.ShuffleDown h) = bit.SHUFFLE_RELATIVE
gather_group (mode.QuadBroadcast h) = bit.QUAD
gather_group (mode.QuadSwap d) = bit.QUAD
