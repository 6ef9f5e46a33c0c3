-- The laws of the order of row keys.
use Rattle.std.proofs.Common.{◌≡◌, ◌≤◌, true, false, [], ◌∷◌, refl, ◌∙◌, ap, arith}
use mathlib.Core.Bool.{false≢true}
use Rattle.std.specs.Ordering.{is_eq, is_lt, is_gt, ordering_reverse}
use Rattle.std.specs.declared.cmp.Ordering.{Ordering}
use Rattle.std.specs.declared.cmp.Ordering.TheVariants.{Less, Equal, Greater}
use Rattle.std.specs.Cmp.{IsTotalOrder}
use Rattle.std.proofs.lemmas.Cmp.{on_total, lists_total, nat_list_cmp_total, tied_itself, alike_right}
use Rattle.std.proofs.lemmas.Bool.Decides.{nat_tests}
use Rattle.oz_rows.specs.declared.key.RowKey.{RowKey}
use Rattle.oz_rows.specs.Rows.{kind_of}
use Rattle.oz_rows.specs.Order.{key_order, key_fields}

pub key_order_total : IsTotalOrder key_order
key_order_total = on_total (λ (key : RowKey). (kind_of key ∷ []) ∷ key_fields key) (lists_total nat_list_cmp_total)

pub equal_from_test : (o : Ordering) → is_eq o ≡ true → o ≡ Equal
equal_from_test Equal e = refl
equal_from_test Less e = absurd (false≢true e)
equal_from_test Greater e = absurd (false≢true e)

pub less_from_test : (o : Ordering) → is_lt o ≡ true → o ≡ Less
less_from_test Less e = refl
less_from_test Equal e = absurd (false≢true e)
less_from_test Greater e = absurd (false≢true e)

pub greater_from_test : (o : Ordering) → is_gt o ≡ true → o ≡ Greater
greater_from_test Less e = absurd (false≢true e)
greater_from_test Equal e = absurd (false≢true e)
greater_from_test Greater e = refl

-- a key compares as one that is the same
pub alike : (a b c : RowKey) → key_order a b ≡ Equal → key_order c a ≡ key_order c b
alike a b c same = alike_right key_order_total a b c same

pub alike_left : (a b c : RowKey) → key_order a b ≡ Equal → key_order a c ≡ key_order b c
alike_left a b c same = key_order_total.congr a b c same

pub turned : (a b : RowKey) → key_order a b ≡ ordering_reverse (key_order b a)
turned a b = key_order_total.antisymm a b

pub below_above : (a b : RowKey) → key_order a b ≡ Less → key_order b a ≡ Greater
below_above a b below = turned b a ∙ ap ordering_reverse below

pub above_below : (a b : RowKey) → key_order a b ≡ Greater → key_order b a ≡ Less
above_below a b above = turned b a ∙ ap ordering_reverse above

-- a key that is not above another is of no greater kind
pub kinds_rise : (a b : RowKey) → is_gt (key_order a b) ≡ false → kind_of a ≤ kind_of b
kinds_rise a b e = grind (arith, nat_tests, e)

pub itself : (a : RowKey) → key_order a a ≡ Equal
itself a = tied_itself key_order_total a
