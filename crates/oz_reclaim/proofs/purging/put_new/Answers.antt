use Rattle.std.proofs.Common.{◌≡◌, true, false, inl, inr, List, refl, sym, ◌∙◌, subst}
use mathlib.Core.Bool.{false≢true}
use Rattle.std.specs.List.{list_any}
use Rattle.oz_reclaim.proofs.Removing.{found_same, same_found}
use Rattle.oz_rows.specs.declared.key.RowKey.{RowKey}
use Rattle.oz_rows.specs.RowMaps.{is_same}
use Rattle.oz_reclaim.proofs.purging.put_new.Goals as goal

pub returns-then-is_among : goal.returns-then-is_among
returns-then-is_among c =
    let told : list_any (λ other. is_same other c.args.key) c.deref.result.now ≡ true = sym c.is_among.ensures ∙ c.if-is_among.true in
    inr (refl, found_same c.args.key c.args.keys.now.items (subst (λ (l : List RowKey). list_any (λ other. is_same other c.args.key) l ≡ true) c.deref.ensures.value told))

pub returns : goal.returns
returns c =
    let told : list_any (λ other. is_same other c.args.key) c.deref.result.now ≡ false = sym c.is_among.ensures ∙ c.if-is_among.false in
    let not : list_any (λ other. is_same other c.args.key) c.args.keys.now.items ≡ false = subst (λ (l : List RowKey). list_any (λ other. is_same other c.args.key) l ≡ false) c.deref.ensures.value told in
    inl (c.in_ok-push.ensures.items, λ there. false≢true (sym not ∙ same_found c.args.key c.args.keys.now.items there))
