-- What is told, and what a stop may leave, while a record comes to a journal.
use Rattle.std.proofs.Common.{◌≡◌, inl, inr, ℕ, ◌+◌, ◌^◌, ◌<◌, ◌≤◌, min, List, [], ◌∷◌, ◌++◌, length, take, drop, get_or, Option, Some, None, refl, sym, ◌∙◌, ap, subst, arith, append_assoc, length-append, take-append-drop}
use Rattle.std.proofs.lemmas.Bool.{cases_eq, cases_lt}
use Rattle.std.proofs.lemmas.List.{take_at, drop_at, drop_more, drop-drop}
use Rattle.oz_world.specs.Disk.{Torn, overwritten}
use Rattle.oz_journal.specs.Grammar.{sized, records, AreRecords, IsJournal, TellsBodies, with_body}
use Rattle.oz_journal.specs.Journal.{IsBeforeOrAfter}
use Rattle.oz_journal.specs.inner.Parts.{IsPartOf}
use Rattle.oz_journal.proofs.Records.{length-sized, records-push, sizes-push}
use Rattle.oz_journal.proofs.Readings.{one_row, few_records}

pub journal_of_records : (bytes : List ℕ) (bodies : List (List ℕ)) → AreRecords bytes bodies → IsJournal bytes bodies
journal_of_records bytes bodies row = elim (cases_lt (length bytes) 2) [
  | inl few ↦ let short : length bytes ≤ 1 = omega (arith, few) in inl (short, few_records bytes bodies row short)
  | inr long ↦ inr (long, row)
]

pub records_of_journal : (bytes : List ℕ) (bodies others : List (List ℕ)) → AreRecords bytes bodies → IsJournal bytes others → others ≡ bodies
records_of_journal bytes bodies others row (inl none) = none.1 ∙ sym (few_records bytes bodies row none.0)
records_of_journal bytes bodies others row (inr all) = one_row bytes others bodies all.1 row

pub told_of : (told : Option (List ℕ)) (bodies : List (List ℕ)) → TellsBodies told bodies → (bytes : List ℕ) × (told ≡ Some bytes) × IsJournal bytes bodies
told_of None bodies stands = absurd stands
told_of (Some bytes) bodies stands = (bytes, refl, stands)

pub stands_by : (told : Option (List ℕ)) (bytes : List ℕ) (bodies : List (List ℕ)) → told ≡ Some bytes → IsJournal bytes bodies → TellsBodies told bodies
stands_by told bytes bodies is journal = subst (λ (o : Option (List ℕ)). TellsBodies o bodies) (sym is) journal

module _ (bytes : List ℕ) (bodies : List (List ℕ)) (row : AreRecords bytes bodies) (body : List ℕ) (small : length body < 2 ^ 32) where
  abbrev place : ℕ
  place = length (records bodies)

  -- the record without its gate, and the gate behind it
  abbrev framed : List ℕ
  framed = sized body ++ 0 ∷ []

  -- the record stands behind a gate
  abbrev behind : ℕ → List ℕ
  behind gate = records bodies ++ gate ∷ (framed ++ drop (length framed) row.rest)

  pub length-framed : length framed ≡ length body + 5
  length-framed = omega (arith, length-append (sized body) (0 ∷ []), length-sized body)

  size : length bytes ≡ place + 1 + length row.rest
  size = omega (arith, ap length row.parts, length-append (records bodies) (row.gate ∷ row.rest))

  pub gate_within : place < length bytes
  gate_within = omega (arith, size)

  whole : bytes ≡ (records bodies ++ row.gate ∷ []) ++ row.rest
  whole = row.parts ∙ sym (append_assoc (records bodies) (row.gate ∷ []) row.rest)

  front_size : length (records bodies ++ row.gate ∷ []) ≡ place + 1
  front_size = length-append (records bodies) (row.gate ∷ [])

  pub front : take (place + 1) bytes ≡ records bodies ++ row.gate ∷ []
  front = ap (λ (l : List ℕ). take (place + 1) l) whole ∙ take_at (records bodies ++ row.gate ∷ []) row.rest (place + 1) front_size

  pub back : (n : ℕ) → drop (place + 1 + n) bytes ≡ drop n row.rest
  back n =
      sym (drop-drop n (place + 1) bytes)
      ∙ ap (λ (l : List ℕ). drop n l) (ap (λ (l : List ℕ). drop (place + 1) l) whole ∙ drop_at (records bodies ++ row.gate ∷ []) row.rest (place + 1) front_size)

  -- the first write
  pub staged : overwritten (place + 1) framed bytes ≡ behind row.gate
  staged =
      ap (λ (l : List ℕ). l ++ framed ++ drop (place + 1 + length framed) bytes) front
      ∙ (ap (λ (l : List ℕ). records bodies ++ row.gate ∷ [] ++ framed ++ l) (back (length framed))
      ∙ (append_assoc (records bodies ++ row.gate ∷ []) framed (drop (length framed) row.rest)
      ∙ append_assoc (records bodies) (row.gate ∷ []) (framed ++ drop (length framed) row.rest)))

  split_behind : (gate : ℕ) → behind gate ≡ (records bodies ++ gate ∷ []) ++ (framed ++ drop (length framed) row.rest)
  split_behind gate = sym (append_assoc (records bodies) (gate ∷ []) (framed ++ drop (length framed) row.rest))

  back_behind : (gate : ℕ) → drop (place + 1) (behind gate) ≡ framed ++ drop (length framed) row.rest
  back_behind gate =
      ap (λ (l : List ℕ). drop (place + 1) l) (split_behind gate)
      ∙ drop_at (records bodies ++ gate ∷ []) (framed ++ drop (length framed) row.rest) (place + 1) (length-append (records bodies) (gate ∷ []))

  front_behind : (gate : ℕ) → take place (behind gate) ≡ records bodies
  front_behind gate = take_at (records bodies) (gate ∷ (framed ++ drop (length framed) row.rest)) place refl

  -- the second write
  pub opened : overwritten place (1 ∷ []) (behind row.gate) ≡ behind 1
  opened =
      ap (λ (l : List ℕ). l ++ (1 ∷ []) ++ drop (place + 1) (behind row.gate)) (front_behind row.gate)
      ∙ (ap (λ (l : List ℕ). records bodies ++ 1 ∷ [] ++ l) (back_behind row.gate)
      ∙ append_assoc (records bodies) (1 ∷ []) (framed ++ drop (length framed) row.rest))

  all_records : records (bodies ++ body ∷ []) ≡ records bodies ++ 1 ∷ sized body
  all_records = records-push bodies body

  all_size : length (records (bodies ++ body ∷ [])) ≡ place + 5 + length body
  all_size = omega (arith, ap length all_records, length-append (records bodies) (1 ∷ sized body), length-sized body)

  pub next_place : place + length framed ≡ length (records (bodies ++ body ∷ []))
  next_place = omega (arith, all_size, length-framed)

  open_is : behind 1 ≡ records (bodies ++ body ∷ []) ++ 0 ∷ drop (length framed) row.rest
  open_is =
      ap (λ (l : List ℕ). records bodies ++ 1 ∷ l) (append_assoc (sized body) (0 ∷ []) (drop (length framed) row.rest))
      ∙ (sym (append_assoc (records bodies) (1 ∷ sized body) (0 ∷ drop (length framed) row.rest))
      ∙ ap (λ (l : List ℕ). l ++ 0 ∷ drop (length framed) row.rest) (sym all_records))

  pub after_is : behind 1 ≡ with_body bodies body bytes
  after_is =
      let count : length (records (bodies ++ body ∷ [])) + 1 ≡ place + 1 + length framed = omega (arith, all_size, length-framed) in
      open_is ∙ ap (λ (l : List ℕ). records (bodies ++ body ∷ []) ++ 0 ∷ l) (sym (ap (λ (n : ℕ). drop n bytes) count ∙ back (length framed)))

  pub after_row : AreRecords (with_body bodies body bytes) (bodies ++ body ∷ [])
  after_row = record {
    sizes = sizes-push bodies body row.sizes small;
    gate = 0;
    rest = drop (length (records (bodies ++ body ∷ [])) + 1) bytes;
    closed = λ e. absurd (omega (arith, e));
    parts = refl;
  }

  -- a part of the first write
  torn_behind : (left : List ℕ) → Torn (place + 1) (length framed) bytes left → IsJournal left bodies
  torn_behind left torn =
      let least : min (place + 1) (length bytes) ≡ place + 1 = omega (arith, size) in
      let start : take (place + 1) left ≡ records bodies ++ row.gate ∷ [] = sym (ap (λ (n : ℕ). take n left) least) ∙ (torn.front ∙ front) in
      let is : left ≡ records bodies ++ row.gate ∷ drop (place + 1) left =
      sym (take-append-drop (place + 1) left)
      ∙ (ap (λ (l : List ℕ). l ++ drop (place + 1) left) start ∙ append_assoc (records bodies) (row.gate ∷ []) (drop (place + 1) left)) in
      journal_of_records left bodies (record { sizes = row.sizes; gate = row.gate; rest = drop (place + 1) left; closed = row.closed; parts = is })

  -- the record behind a gate that stands open or doesn't
  by_gate : (left : List ℕ) (gate : ℕ) → left ≡ behind gate → IsBeforeOrAfter bodies body left
  by_gate left gate is = elim (cases_eq gate 1) [
    | inl is_open ↦
        let all : left ≡ with_body bodies body bytes = is ∙ (ap behind is_open ∙ after_is) in
        inr (subst (λ (l : List ℕ). IsJournal l (bodies ++ body ∷ [])) (sym all) (journal_of_records (with_body bodies body bytes) (bodies ++ body ∷ []) after_row))
    | inr closed ↦ inl (journal_of_records left bodies (record { sizes = row.sizes; gate = gate; rest = framed ++ drop (length framed) row.rest; closed = closed; parts = is }))
  ]

  -- a part of the second write
  torn_gate : (left : List ℕ) → Torn place 1 (behind row.gate) left → IsBeforeOrAfter bodies body left
  torn_gate left torn =
      let long : length (behind row.gate) ≡ place + 1 + length (framed ++ drop (length framed) row.rest) = omega (arith, length-append (records bodies) (row.gate ∷ (framed ++ drop (length framed) row.rest))) in
      let least : min place (length (behind row.gate)) ≡ place = omega (arith, long) in
      let start : take place left ≡ records bodies = sym (ap (λ (n : ℕ). take n left) least) ∙ (torn.front ∙ front_behind row.gate) in
      let gate = get_or left place 0 in
      let rest : drop place left ≡ gate ∷ (framed ++ drop (length framed) row.rest) =
      drop_more left place 0 (omega (arith, long, torn.no_shorter)) ∙ ap (λ (l : List ℕ). gate ∷ l) (torn.back ∙ back_behind row.gate) in
      let is : left ≡ behind gate =
      sym (take-append-drop place left) ∙ (ap (λ (l : List ℕ). l ++ drop place left) start ∙ ap (λ (l : List ℕ). records bodies ++ l) rest) in
      by_gate left gate is

  -- a part of what the record comes to
  pub part_leaves : (left : List ℕ) → IsPartOf place framed bytes left → IsBeforeOrAfter bodies body left
  part_leaves left (inl torn) = inl (torn_behind left torn)
  part_leaves left (inr torn) = torn_gate left (subst (λ (l : List ℕ). Torn place 1 l left) staged torn)

  -- what both writes made of the bytes
  pub both_done : overwritten place (1 ∷ []) (overwritten (place + 1) framed bytes) ≡ with_body bodies body bytes
  both_done = ap (overwritten place (1 ∷ [])) staged ∙ (opened ∙ after_is)
