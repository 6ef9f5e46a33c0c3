use Rattle.std.proofs.Common.{◌≡◌, ℕ, List, [], length, ◌++◌, ◌∷◌, eqb-true, refl, sym, ◌∙◌, ap, arith}
use Rattle.std.proofs.lemmas.List.{append-nil}
use Rattle.oz_fields.specs.Field.{AreBytes}
use Rattle.oz_entries.specs.declared.entry.Entry.{Entry}
use Rattle.oz_entries.specs.Build.{IsNext}
use Rattle.oz_entries.specs.Held.{node_of}
use Rattle.oz_entries.specs.Node.{Node}
use Rattle.oz_entries.specs.Entries.{entry_bytes}
use Rattle.oz_entries.specs.Reading.{entry_at}
use Rattle.oz_entries.specs.laws.Reads.{entry_reads, as_read}
use Rattle.oz_entries.proofs.building.whole_entry.Goals as goal

no_items : (l : List ℕ) → length l ≡ 0 → l ≡ []
no_items [] none = refl
no_items (x ∷ l) none = absurd (omega (arith, none))

whole : (node : Node) (bytes rest : List ℕ) (entry : Entry) → AreBytes bytes → entry_at node bytes ≡ as_read (entry, rest) → rest ≡ [] → IsNext node bytes entry
whole node bytes rest entry fit read none =
    let found = (entry_reads node).one_spelling bytes entry rest fit read in
    record { spelled = found.1 ∙ (ap (λ (l : List ℕ). entry_bytes entry ++ l) none ∙ append-nil (entry_bytes entry)); follows = found.0 }

pub returns-clause-next : goal.returns-clause-next
returns-clause-next c = whole (node_of c.args.held.now) c.args.bytes.now _ c.in_ok-entry.entry (λ i. omega (arith, c.type_inv.bytes i)) c.in_ok-entry.ensures (no_items c.in_ok-entry.rest.now (eqb-true (length c.in_ok-entry.rest.now) 0 (sym c.is_empty.ensures ∙ c.if-not-is_empty.false)))
