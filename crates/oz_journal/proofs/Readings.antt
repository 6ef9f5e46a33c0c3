-- Bytes stand for one thing.
use Rattle.std.proofs.Common.{◌≡◌, ◌⊎◌, inl, inr, ℕ, ◌≤◌, List, [], ◌∷◌, ◌++◌, length, refl, sym, ◌∙◌, ap, subst, arith, length-append}
use Rattle.std.proofs.lemmas.List.{append-nil}
use Rattle.std.proofs.lemmas.Bool.{cases_lt}
use Rattle.oz_fields.specs.Field.{AreBytes}
use Rattle.oz_journal.specs.Grammar.{records, AreRecords, IsJournal, HaveSizes, IsDamagedAt}
use Rattle.oz_journal.specs.Load.{IsLeftAlone}
use Rattle.oz_journal.proofs.Records.{IsEnd, nothing_ends, closed_ends, short_ends, same_parts, Tail, no_gate, shut_gate, cut_record, parts_of}

pub one_row : (bytes : List ℕ) (bodies others : List (List ℕ)) → AreRecords bytes bodies → AreRecords bytes others → bodies ≡ others
one_row bytes bodies others a b = (same_parts bodies others (a.gate ∷ a.rest) (b.gate ∷ b.rest) a.sizes b.sizes (closed_ends a.gate a.rest a.closed) (closed_ends b.gate b.rest b.closed) (sym a.parts ∙ b.parts)).0

-- at most one byte is a gate behind no records
pub few_records : (bytes : List ℕ) (bodies : List (List ℕ)) → AreRecords bytes bodies → length bytes ≤ 1 → bodies ≡ []
unfolding records
few_records bytes [] row few = refl
few_records bytes (b ∷ bodies) row few = absurd (omega (arith, ap length row.parts, length-append (records (b ∷ bodies)) (row.gate ∷ row.rest)))

pub one_reading : (bytes : List ℕ) (bodies others : List (List ℕ)) → IsJournal bytes bodies → IsJournal bytes others → bodies ≡ others
one_reading bytes bodies others (inl a) (inl b) = a.1 ∙ sym b.1
one_reading bytes bodies others (inl a) (inr b) = absurd (omega (arith, a.0, b.0))
one_reading bytes bodies others (inr a) (inl b) = absurd (omega (arith, a.0, b.0))
one_reading bytes bodies others (inr a) (inr b) = one_row bytes bodies others a.1 b.1

-- bytes that are damaged have a tail of their own
record Torn (bytes : List ℕ) (offset : ℕ) : Type 0 where
  bodies : List (List ℕ)
  tail : List ℕ
  sizes : HaveSizes bodies
  ends : IsEnd tail
  open_or_nothing : (gate : ℕ) (rest : List ℕ) → tail ≡ gate ∷ rest → gate ≡ 1
  parts : bytes ≡ records bodies ++ tail
  place : offset ≡ length (records bodies)

torn : (bytes : List ℕ) (offset : ℕ) → IsDamagedAt bytes offset → Torn bytes offset
torn bytes offset (long, inl lacks) = record {
  bodies = lacks.bodies;
  tail = [];
  sizes = lacks.sizes;
  ends = nothing_ends;
  open_or_nothing = λ gate rest e. absurd cc;
  parts = lacks.parts ∙ sym (append-nil (records lacks.bodies));
  place = lacks.place ∙ ap length lacks.parts;
}
torn bytes offset (long, inr cut) = record {
  bodies = cut.bodies;
  tail = 1 ∷ cut.behind;
  sizes = cut.sizes;
  ends = short_ends cut.behind cut.cut;
  open_or_nothing = λ gate rest e. cc e;
  parts = cut.parts;
  place = cut.place;
}

pub one_damage : (bytes : List ℕ) (offset place : ℕ) → IsDamagedAt bytes offset → IsDamagedAt bytes place → offset ≡ place
one_damage bytes offset place a b =
    let one = torn bytes offset a in
    let two = torn bytes place b in
    let same = same_parts one.bodies two.bodies one.tail two.tail one.sizes two.sizes one.ends two.ends (sym one.parts ∙ two.parts) in
    one.place ∙ (ap (λ (l : List (List ℕ)). length (records l)) same.0 ∙ sym two.place)

pub not_both : (bytes : List ℕ) (bodies : List (List ℕ)) (offset : ℕ) → IsJournal bytes bodies → IsDamagedAt bytes offset → ⊥
not_both bytes bodies offset (inl a) damaged = omega (arith, a.0, damaged.0)
not_both bytes bodies offset (inr a) damaged =
    let row = a.1 in
    let two = torn bytes offset damaged in
    let same = same_parts bodies two.bodies (row.gate ∷ row.rest) two.tail row.sizes two.sizes (closed_ends row.gate row.rest row.closed) two.ends (sym row.parts ∙ two.parts) in
    row.closed (two.open_or_nothing row.gate row.rest (sym same.1))

-- what bytes with such a tail stand for, or where they are damaged
by_tail : (bytes tail : List ℕ) (bodies : List (List ℕ)) → 2 ≤ length bytes → HaveSizes bodies → Tail tail → bytes ≡ records bodies ++ tail → ((bodies : List (List ℕ)) × IsJournal bytes bodies) ⊎ ((offset : ℕ) × IsDamagedAt bytes offset)
by_tail bytes [] bodies long sizes no_gate e = inr (length bytes, (long, inl (record { bodies = bodies; sizes = sizes; parts = e ∙ append-nil (records bodies); place = refl })))
by_tail bytes (_ ∷ _) bodies long sizes (shut_gate gate rest closed) e = inl (bodies, inr (long, record { sizes = sizes; gate = gate; rest = rest; closed = closed; parts = e }))
by_tail bytes (_ ∷ _) bodies long sizes (cut_record behind cut) e = inr (length (records bodies), (long, inr (record { bodies = bodies; behind = behind; sizes = sizes; cut = cut; parts = e; place = refl })))

pub one_of_them : (bytes : List ℕ) → AreBytes bytes → ((bodies : List (List ℕ)) × IsJournal bytes bodies) ⊎ ((offset : ℕ) × IsDamagedAt bytes offset)
one_of_them bytes are = elim (cases_lt (length bytes) 2) [
  | inl few ↦ inl ([], inl (omega (arith, few), refl))
  | inr long ↦ let all = parts_of (length bytes) bytes (omega arith) are in by_tail bytes all.tail all.bodies long all.sizes all.kind all.parts
]

pub left_alone : (before after : List ℕ) (bodies : List (List ℕ)) → IsLeftAlone before after → IsJournal before bodies → IsJournal after bodies
left_alone before after bodies (inl same) journal = subst (λ (l : List ℕ). IsJournal l bodies) (sym same) journal
left_alone before after bodies (inr short) (inl none) = inl (short.1, none.1)
left_alone before after bodies (inr short) (inr row) = absurd (omega (arith, short.0, row.0))
