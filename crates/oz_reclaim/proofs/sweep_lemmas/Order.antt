-- The order of row keys has a name of its own.
use Rattle.std.proofs.Common.{◌≡◌, rules, arith}
use Rattle.std.proofs.lemmas.Grind.{common_steps}
use Rattle.std.proofs.Math.Path.{fun_ext}
use Rattle.oz_rows.specs.declared.key.RowKey.{RowKey}
use Rattle.oz_rows.specs.Order.{key_order}
use Rattle.oz_rows.specs.contracts.key.RowKeyOrd.TheImpl.{cmp-value}

alike : (a b : RowKey) → (cmp-value).it a b ≡ key_order a b
alike a b = first_of (search rules, grind (arith, common_steps))

pub same_order : (cmp-value).it ≡ key_order
same_order = fun_ext (λ a. fun_ext (λ b. alike a b))
