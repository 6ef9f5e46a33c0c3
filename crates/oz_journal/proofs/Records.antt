-- Records one behind another, and what may stand behind the last of them.
use Rattle.std.proofs.Common.{◌≡◌, ◌≢◌, inl, inr, ℕ, zero, suc, ◌+◌, ◌^◌, ◌<◌, ◌≤◌, List, [], ◌∷◌, ◌++◌, length, take, drop, Some, false, ltb, refl, sym, ◌∙◌, ap, subst, arith, append_assoc, length-append, length-take, length-drop, take-append-drop}
use Rattle.std.proofs.lemmas.List.{take_at, drop_at}
use Rattle.std.proofs.lemmas.Bool.{cases_eq, cases_lt, le-ltb}
use Rattle.std.specs.Int.{w32, from_be_bytes}
use Rattle.std.proofs.lemmas.Option.{some_pair_parts}
use Rattle.oz_fields.specs.Field.{AreBytes}
use Rattle.oz_fields.specs.Number.{u32_bytes, u32_at, number_at}
use Rattle.oz_fields.specs.laws.Numbers.{u32_field}
use Rattle.oz_fields.specs.laws.Bytes.{AreBytes-drop, AreBytes-behind}
use Rattle.oz_journal.specs.Grammar.{sized, records, HaveSizes, IsCutOff}

pub length-u32_bytes : (n : ℕ) → length (u32_bytes n) ≡ 4
unfolding u32_bytes
length-u32_bytes n = refl

pub length-sized : (body : List ℕ) → length (sized body) ≡ length body + 4
length-sized body = omega (arith, length-append (u32_bytes (length body)) body, length-u32_bytes (length body))

pub records-push : (bodies : List (List ℕ)) (body : List ℕ) → records (bodies ++ body ∷ []) ≡ records bodies ++ 1 ∷ sized body
unfolding records
records-push [] body = ap (λ (l : List ℕ). 1 ∷ l) (append-nil (sized body))
  where
    append-nil : (l : List ℕ) → l ++ [] ≡ l
    append-nil [] = refl
    append-nil (x ∷ l) = ap (λ (m : List ℕ). x ∷ m) (append-nil l)
records-push (b ∷ bodies) body = ap (λ (l : List ℕ). 1 ∷ sized b ++ l) (records-push bodies body) ∙ ap (λ (l : List ℕ). 1 ∷ l) (sym (append_assoc (sized b) (records bodies) (1 ∷ sized body)))

pub sizes-push : (bodies : List (List ℕ)) (body : List ℕ) → HaveSizes bodies → length body < 2 ^ 32 → HaveSizes (bodies ++ body ∷ [])
sizes-push [] body sizes small = (small, tt)
sizes-push (b ∷ bodies) body sizes small = (sizes.0, sizes-push bodies body sizes.1 small)

-- a body behind its length is read back
pub read_sized : (body rest : List ℕ) → length body < 2 ^ 32 → u32_at (sized body ++ rest) ≡ Some (length body, body ++ rest)
read_sized body rest small = ap u32_at (append_assoc (u32_bytes (length body)) body rest) ∙ u32_field.reads_back (length body) (body ++ rest) small

-- no record stands first
abbrev pub IsEnd : List ℕ → Type 0
IsEnd tail = (body rest : List ℕ) → length body < 2 ^ 32 → tail ≡ 1 ∷ sized body ++ rest → ⊥

pub nothing_ends : IsEnd []
nothing_ends body rest small e = absurd cc

pub closed_ends : (gate : ℕ) (rest : List ℕ) → gate ≢ 1 → IsEnd (gate ∷ rest)
closed_ends gate after closed body rest small e = closed (cc e)

pub short_ends : (behind : List ℕ) → IsCutOff behind → IsEnd (1 ∷ behind)
short_ends behind (inl short) body rest small e =
    let same : behind ≡ sized body ++ rest = cc e in
    absurd (omega (arith, ap length same, length-append (sized body) rest, length-sized body))
short_ends behind (inr (size, after, read, less)) body rest small e =
    let same : behind ≡ sized body ++ rest = cc e in
    let both : Some (size, after) ≡ Some (length body, body ++ rest) = sym read ∙ (ap u32_at same ∙ read_sized body rest small) in
    let parts = some_pair_parts size (length body) after (body ++ rest) both in
    absurd (omega (arith, less, parts.0, ap length parts.1, length-append body rest))

-- two records at one place are one
same_body : (b c rest more : List ℕ) → length b < 2 ^ 32 → length c < 2 ^ 32 → sized b ++ rest ≡ sized c ++ more → (b ≡ c) × (rest ≡ more)
same_body b c rest more small tiny e =
    let both : Some (length b, b ++ rest) ≡ Some (length c, c ++ more) = sym (read_sized b rest small) ∙ (ap u32_at e ∙ read_sized c more tiny) in
    let parts = some_pair_parts (length b) (length c) (b ++ rest) (c ++ more) both in (
      sym (take_at b rest (length c) parts.0) ∙ (ap (λ (l : List ℕ). take (length c) l) parts.1 ∙ take_at c more (length c) refl),
      sym (drop_at b rest (length c) parts.0) ∙ (ap (λ (l : List ℕ). drop (length c) l) parts.1 ∙ drop_at c more (length c) refl),
    )

-- bytes are records and an end in one way
pub same_parts : (bodies others : List (List ℕ)) (tail end : List ℕ) → HaveSizes bodies → HaveSizes others → IsEnd tail → IsEnd end → records bodies ++ tail ≡ records others ++ end → (bodies ≡ others) × (tail ≡ end)
unfolding records
same_parts [] [] tail end sizes more is_end ends e = (refl, e)
same_parts [] (c ∷ others) tail end sizes more is_end ends e = absurd (is_end c (records others ++ end) more.0 (e ∙ ap (λ (l : List ℕ). 1 ∷ l) (append_assoc (sized c) (records others) end)))
same_parts (b ∷ bodies) [] tail end sizes more is_end ends e = absurd (ends b (records bodies ++ tail) sizes.0 (sym e ∙ ap (λ (l : List ℕ). 1 ∷ l) (append_assoc (sized b) (records bodies) tail)))
same_parts (b ∷ bodies) (c ∷ others) tail end sizes more is_end ends e =
    let behind : (sized b ++ records bodies) ++ tail ≡ (sized c ++ records others) ++ end = cc e in
    let both = same_body b c (records bodies ++ tail) (records others ++ end) sizes.0 more.0 (sym (append_assoc (sized b) (records bodies) tail) ∙ (behind ∙ append_assoc (sized c) (records others) end)) in
    let rest = same_parts bodies others tail end sizes.1 more.1 is_end ends both.1 in
    (ap (λ (l : List ℕ). l ∷ bodies) both.0 ∙ ap (λ (l : List (List ℕ)). c ∷ l) rest.0, rest.1)

-- what stands behind the last record: nothing, a gate that isn't open, or one that is and a record that passes the end
pub data Tail : List ℕ → Type 0 where
  no_gate : Tail []
  shut_gate : (gate : ℕ) (rest : List ℕ) → gate ≢ 1 → Tail (gate ∷ rest)
  cut_record : (behind : List ℕ) → IsCutOff behind → Tail (1 ∷ behind)

-- some records, and what stands behind them
pub record Parts (bytes : List ℕ) : Type 0 where
  pub bodies : List (List ℕ)
  pub tail : List ℕ
  pub sizes : HaveSizes bodies
  pub kind : Tail tail
  pub parts : bytes ≡ records bodies ++ tail

-- one more record before them
in_front : (bytes behind body rest : List ℕ) → bytes ≡ 1 ∷ behind → behind ≡ sized body ++ rest → length body < 2 ^ 32 → Parts rest → Parts bytes
unfolding records
in_front bytes behind body rest first is small others = record {
  bodies = body ∷ others.bodies;
  tail = others.tail;
  sizes = (small, others.sizes);
  kind = others.kind;
  parts = first ∙ ap (λ (l : List ℕ). 1 ∷ l) (is ∙ (ap (λ (l : List ℕ). sized body ++ l) others.parts ∙ sym (append_assoc (sized body) (records others.bodies) others.tail)));
}

without : (bytes : List ℕ) → Tail bytes → Parts bytes
unfolding records
without bytes kind = record { bodies = []; tail = bytes; sizes = tt; kind = kind; parts = refl }

-- a number is read from four bytes and more
read_long : (bytes : List ℕ) → 4 ≤ length bytes → (n : ℕ) × (rest : List ℕ) × (u32_at bytes ≡ Some (n, rest))
unfolding number_at
read_long bytes long =
    let enough : ltb (length bytes) 4 ≡ false = le-ltb _ _ long in
    (from_be_bytes w32 (take 4 bytes), drop 4 bytes, rw enough refl)

-- all bytes are records and one of these tails
pub parts_of : (size : ℕ) (bytes : List ℕ) → length bytes ≤ size → AreBytes bytes → Parts bytes
parts_of size [] fits are = without [] no_gate
parts_of zero (g ∷ behind) fits are = absurd (omega arith)
parts_of (suc size) (g ∷ behind) fits are = elim (cases_eq g 1) [
  | inr closed ↦ without (g ∷ behind) (shut_gate g behind closed)
  | inl is_open ↦ elim (cases_lt (length behind) 4) [
    | inl few ↦ subst (λ (n : ℕ). Parts (n ∷ behind)) (sym is_open) (without (1 ∷ behind) (cut_record behind (inl few)))
    | inr long ↦
        let read = read_long behind long in
        let spelled = u32_field.one_spelling behind read.0 read.1 (λ k. are (suc k)) read.2 in
        elim (cases_lt (length read.1) read.0) [
          | inl less ↦ subst (λ (n : ℕ). Parts (n ∷ behind)) (sym is_open) (without (1 ∷ behind) (cut_record behind (inr (read.0, read.1, read.2, less))))
          | inr enough ↦
              let body = take read.0 read.1 in
              let rest = drop read.0 read.1 in
              let count : length body ≡ read.0 = omega (arith, length-take read.0 read.1) in
              let is : behind ≡ sized body ++ rest =
              spelled.1 ∙ (ap (λ (l : List ℕ). u32_bytes read.0 ++ l) (sym (take-append-drop read.0 read.1)) ∙ (ap (λ (n : ℕ). u32_bytes n ++ (body ++ rest)) (sym count) ∙ sym (append_assoc (u32_bytes (length body)) body rest))) in
              let less : length rest ≤ size =
              omega (arith, length-drop read.0 read.1, ap length spelled.1, length-append (u32_bytes read.0) read.1, length-u32_bytes read.0) in
              in_front (g ∷ behind) behind body rest (ap (λ (n : ℕ). n ∷ behind) is_open) is (omega (arith, spelled.0, count)) (parts_of size rest less (AreBytes-drop read.0 read.1 (AreBytes-behind behind (u32_bytes read.0) read.1 (λ k. are (suc k)) spelled.1)))
        ]
  ]
]
