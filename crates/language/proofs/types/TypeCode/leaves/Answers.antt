use Rattle.std.proofs.Common.{length, ap, arith}
use Rattle.language.proofs.Encoding.{type_length}
use Rattle.language.proofs.types.TypeCode.leaves.Goals as goal

pub returns-clause-counted : goal.returns-clause-counted
returns-clause-counted c =
    λ τ h. omega (arith, ap length c.as_slice.ensures.bytes, ap length h, type_length τ)
