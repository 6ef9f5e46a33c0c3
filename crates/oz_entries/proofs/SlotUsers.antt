-- How far slots were given to a user, or to none.
use Rattle.std.proofs.Common.{◌≡◌, ◌≢◌, set, inl, inr, ℕ, ◌+◌, ◌<◌, ◌≤◌, eqb, ◌||◌, Bool, true, false, cond, List, [], ◌∷◌, ◌++◌, length, take, get_or, Option, None, refl, sym, ap, ◌∙◌, arith}
use Rattle.std.proofs.lemmas.Bool.{cases_lt}
use Rattle.std.proofs.lemmas.List.{take_more, take_all, get_or_past, length-set, get_or-set_other, get_or-set_same}
use Rattle.std.proofs.lemmas.List.Folds.{list_any-append}
use Rattle.oz_fields.specs.declared.block.Block.{Block}
use Rattle.oz_entries.specs.declared.row.Chunk.{Chunk}
use Rattle.oz_entries.specs.Held.{user_of, any_in}
use Rattle.oz_entries.specs.Node.{unless_gone}

-- the chunks so far have this user
pub record Gives (before after : List (Option Block)) (chunks : List Chunk) (user : Option Block) : Type 0 where
  pub count : length after ≡ length before
  pub given : (slot : ℕ) → slot < length before → user_of after slot ≡ cond (any_in chunks slot) user (user_of before slot)

pub gives_none : (before : List (Option Block)) (user : Option Block) → Gives before before [] user
gives_none before user = record { count = refl; given = λ slot less. refl }

either : (a b : Bool) (x y : Option Block) → cond (a || b) x y ≡ cond b x (cond a x y)
either true true x y = refl
either true false x y = refl
either false true x y = refl
either false false x y = refl

either_false : (a : Bool) → (a || false) ≡ a
either_false true = refl
either_false false = refl

pub gives_more : (before between after : List (Option Block)) (chunks : List Chunk) (i : ℕ) (d : Chunk) (user : Option Block) → Gives before between (take i chunks) user → i < length chunks
    → length after ≡ length between → ((slot : ℕ) → slot < length between → user_of after slot ≡ cond (eqb (get_or chunks i d).slot slot) user (user_of between slot)) → Gives before after (take (i + 1) chunks) user
gives_more before between after chunks i d user gives less count set = let chunk = get_or chunks i d in record {
  count = count ∙ gives.count;
  given = λ slot within.
      let more : take (i + 1) chunks ≡ take i chunks ++ chunk ∷ [] = take_more chunks i d less in
      let any : any_in (take (i + 1) chunks) slot ≡ (any_in (take i chunks) slot || eqb chunk.slot slot) =
      ap (λ (l : List Chunk). any_in l slot) more ∙ (list_any-append (λ (c : Chunk). eqb c.slot slot) (take i chunks) (chunk ∷ []) ∙ ap (λ (b : Bool). any_in (take i chunks) slot || b) (either_false (eqb chunk.slot slot))) in
      let inside : slot < length between = omega (arith, within, gives.count) in
      set slot inside
      ∙ (ap (λ (o : Option Block). cond (eqb chunk.slot slot) user o) (gives.given slot within)
      ∙ (sym (either (any_in (take i chunks) slot) (eqb chunk.slot slot) user (user_of before slot)) ∙ ap (λ (b : Bool). cond b user (user_of before slot)) (sym any)));
}

pub gives_all : (before after : List (Option Block)) (chunks : List Chunk) (i : ℕ) (user : Option Block) → Gives before after (take i chunks) user → length chunks ≤ i
    → (slot : ℕ) → slot < length before → user_of after slot ≡ cond (any_in chunks slot) user (user_of before slot)
gives_all before after chunks i user gives whole slot within =
    gives.given slot within ∙ ap (λ (l : List Chunk). cond (any_in l slot) user (user_of before slot)) (take_all i chunks whole)

none_anyway : (b : Bool) (user : Option Block) → user ≡ None → cond b None user ≡ user
none_anyway true user none = sym none
none_anyway false user none = refl

pub frees_all : (before after : List (Option Block)) (chunks : List Chunk) (i : ℕ) → Gives before after (take i chunks) None → length chunks ≤ i
    → (slot : ℕ) → user_of after slot ≡ cond (any_in chunks slot) None (user_of before slot)
frees_all before after chunks i gives whole slot = elim (cases_lt slot (length before)) [
  | inl within ↦ gives_all before after chunks i None gives whole slot within
  | inr beyond ↦
      let after_none : user_of after slot ≡ None = get_or_past after slot None (omega (arith, beyond, gives.count)) in
      let before_none : user_of before slot ≡ None = get_or_past before slot None beyond in
      after_none ∙ (sym before_none ∙ sym (none_anyway (any_in chunks slot) (user_of before slot) before_none))
]

-- the slots so far are rid of some blocks
pub record Cleans (is_gone : Block → Bool) (before after : List (Option Block)) (i : ℕ) : Type 0 where
  pub count : length after ≡ length before
  pub cleaned : (slot : ℕ) → slot < i → user_of after slot ≡ unless_gone is_gone (user_of before slot)
  pub rest : (slot : ℕ) → i ≤ slot → user_of after slot ≡ user_of before slot

pub cleans_none : (is_gone : Block → Bool) (before : List (Option Block)) → Cleans is_gone before before 0
cleans_none is_gone before = record { count = refl; cleaned = λ slot less. absurd (omega (arith, less)); rest = λ slot from. refl }

pub cleans_more : (is_gone : Block → Bool) (before between : List (Option Block)) (i : ℕ) (value : Option Block) → Cleans is_gone before between i → i < length between → value ≡ unless_gone is_gone (user_of between i) → Cleans is_gone before (set between i value) (i + 1)
cleans_more is_gone before between i value cleans within is = record {
  count = length-set between i value ∙ cleans.count;
  cleaned = λ slot less. elim (cases_lt slot i) [
    | inl lower ↦ let apart : slot ≢ i = omega (arith, lower) in get_or-set_other between i slot value None apart ∙ cleans.cleaned slot lower
    | inr last ↦
        let same : slot ≡ i = omega (arith, less, last) in
        ap (λ (n : ℕ). user_of (set between i value) n) same
        ∙ (get_or-set_same between i value None within
        ∙ (is ∙ (ap (λ (o : Option Block). unless_gone is_gone o) (cleans.rest i (omega arith)) ∙ ap (λ (n : ℕ). unless_gone is_gone (user_of before n)) (sym same))))
  ];
  rest = λ slot from. let apart : slot ≢ i = omega (arith, from) in get_or-set_other between i slot value None apart ∙ cleans.rest slot (omega (arith, from));
}

pub cleans_all : (is_gone : Block → Bool) (before after : List (Option Block)) (i : ℕ) → Cleans is_gone before after i → length before ≤ i → (slot : ℕ) → user_of after slot ≡ unless_gone is_gone (user_of before slot)
cleans_all is_gone before after i cleans whole slot = elim (cases_lt slot i) [
  | inl lower ↦ cleans.cleaned slot lower
  | inr beyond ↦
      let none : user_of before slot ≡ None = get_or_past before slot None (omega (arith, beyond, whole)) in
      cleans.rest slot beyond ∙ (none ∙ ap (λ (o : Option Block). unless_gone is_gone o) (sym none))
]
