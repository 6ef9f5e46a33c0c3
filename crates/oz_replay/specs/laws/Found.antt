-- What a test finds in a list, and ids and blocks that are one.
use Rattle.std.proofs.Common.{◌≡◌, ℕ, Bool, true, false, ◌&&◌, ◌||◌, ◌==◌, List, [], ◌∷◌, map, refl, sym, ◌∙◌, ap, Option, None, Some}
use Rattle.std.proofs.lemmas.Bool.{eqb-true, eq-eqb}
use Rattle.std.proofs.lemmas.List.Folds.{Any-from_list_any, list_any-from_Any, list_any-append}
use Rattle.std.proofs.lemmas.Map.Views.{Contains-from_any}
use Rattle.std.specs.Option.{option_map_or}
use Rattle.std.specs.List.{list_any, filter_map, flat_map, cons_option, Contains, Any}
use Rattle.oz_fields.specs.declared.block.Block.{Block}
use Rattle.oz_requests.specs.declared.request.AskId.{AskId}
use Rattle.oz_core.specs.Asks.{is_id}
use Rattle.oz_core.specs.Nodes.{is_block}

pub false-true : {X : Type 0} → false ≡ true → X
false-true h = absurd (cc)

pub both : (a b : Bool) → (a && b) ≡ true → (a ≡ true) × (b ≡ true)
both true true h = (refl, refl)
both true false h = false-true h
both false b h = false-true h

pub joined : (a b : Bool) → a ≡ true → b ≡ true → (a && b) ≡ true
joined a b is_a is_b = ap (λ (c : Bool). c && b) is_a ∙ is_b

-- an element that passes, and that such an element is found
pub record Found {X : Type 0} (passes : X → Bool) (xs : List X) : Type 0 where
  pub item : X
  pub there : Contains xs item
  pub so : passes item ≡ true

pub found : {X : Type 0} (passes : X → Bool) (xs : List X) → list_any passes xs ≡ true → Found passes xs
found {X} passes xs h =
    let a : Any (λ (x : X). passes x ≡ true) xs = Any-from_list_any passes xs h in
    record { item = a.1; there = (a.0, a.2, a.3); so = a.4 }

pub finds : {X : Type 0} (passes : X → Bool) (xs : List X) (x : X) → Contains xs x → passes x ≡ true → list_any passes xs ≡ true
finds passes xs x there so = list_any-from_Any passes xs (there.0, x, there.1, there.2, so)

-- ids and blocks that a test takes for one are one
abbrev an_id : ℕ → ℕ → ℕ → AskId
an_id client line step = record { client = client; line = line; step = step }

pub same_id : (id other : AskId) → is_id id other ≡ true → other ≡ id
same_id id other h =
    let front : ((other.client == id.client && other.line == id.line) ≡ true)
    × ((other.step == id.step) ≡ true) = both (other.client == id.client && other.line == id.line) (other.step == id.step) h in
    let two : ((other.client == id.client) ≡ true) × ((other.line == id.line) ≡ true) = both (other.client == id.client) (other.line == id.line) front.0 in
    ap (λ (n : ℕ). an_id n other.line other.step) (eqb-true other.client id.client two.0)
    ∙ (ap (λ (n : ℕ). an_id id.client n other.step) (eqb-true other.line id.line two.1)
    ∙ ap (λ (n : ℕ). an_id id.client id.line n) (eqb-true other.step id.step front.1))

abbrev a_block : ℕ → ℕ → Block
a_block container local = record { container = container; local = local }

pub same_block : (block other : Block) → is_block block other ≡ true → block ≡ other
same_block block other h =
    let two : ((other.container == block.container) ≡ true)
    × ((other.local == block.local) ≡ true) = both (other.container == block.container) (other.local == block.local) h in
    ap (λ (n : ℕ). a_block n block.local) (sym (eqb-true other.container block.container two.0))
    ∙ ap (λ (n : ℕ). a_block other.container n) (sym (eqb-true other.local block.local two.1))

pub block_itself : (block : Block) → is_block block block ≡ true
block_itself block = ap (λ (b : Bool). b && block.local == block.local) (eq-eqb block.container block.container refl) ∙ eq-eqb block.local block.local refl

pub among : (block : Block) (blocks : List Block) → list_any (is_block block) blocks ≡ true → Contains blocks block
among block blocks h = Contains-from_any same_block block blocks h

pub among-finds : (block : Block) (blocks : List Block) → Contains blocks block → list_any (is_block block) blocks ≡ true
among-finds block blocks there = finds (is_block block) blocks block there (block_itself block)

-- ---- lists that are made of lists

pub any-map : {X Y : Type 0} (p : Y → Bool) (f : X → Y) (xs : List X) → list_any p (map f xs) ≡ list_any (λ x. p (f x)) xs
any-map p f [] = refl
any-map p f (x ∷ xs) = ap (λ (b : Bool). p (f x) || b) (any-map p f xs)

any-cons : {Y : Type 0} (p : Y → Bool) (o : Option Y) (ys : List Y) → list_any p (cons_option o ys) ≡ (option_map_or p o false || list_any p ys)
any-cons p None ys = refl
any-cons p (Some y) ys = refl

any-filter_map : {X Y : Type 0} (p : Y → Bool) (h : X → Option Y) (xs : List X) → list_any p (filter_map h xs) ≡ list_any (λ x. option_map_or p (h x) false) xs
any-filter_map p h [] = refl
any-filter_map p h (x ∷ xs) = any-cons p (h x) (filter_map h xs) ∙ ap (λ (b : Bool). option_map_or p (h x) false || b) (any-filter_map p h xs)

any-flat_map : {X Y : Type 0} (p : Y → Bool) (f : X → List Y) (xs : List X) → list_any p (flat_map f xs) ≡ list_any (λ x. list_any p (f x)) xs
any-flat_map p f [] = refl
any-flat_map p f (x ∷ xs) = list_any-append p (f x) (flat_map f xs) ∙ ap (λ (b : Bool). list_any p (f x) || b) (any-flat_map p f xs)

-- a block that one of the elements gives
module _ {X : Type 0} (block : Block) where
  pub given : (h : X → Option Block) (xs : List X) → list_any (λ x. option_map_or (is_block block) (h x) false) xs ≡ true → Contains (filter_map h xs) block
  given h xs is = among block (filter_map h xs) (any-filter_map (is_block block) h xs ∙ is)

  pub given-finds : (h : X → Option Block) (xs : List X) → Contains (filter_map h xs) block
      → list_any (λ x. option_map_or (is_block block) (h x) false) xs ≡ true
  given-finds h xs there = sym (any-filter_map (is_block block) h xs) ∙ among-finds block (filter_map h xs) there

  pub listed : (f : X → List Block) (xs : List X) → list_any (λ x. list_any (is_block block) (f x)) xs ≡ true → Contains (flat_map f xs) block
  listed f xs is = among block (flat_map f xs) (any-flat_map (is_block block) f xs ∙ is)

  pub listed-finds : (f : X → List Block) (xs : List X) → Contains (flat_map f xs) block → list_any (λ x. list_any (is_block block) (f x)) xs ≡ true
  listed-finds f xs there = sym (any-flat_map (is_block block) f xs) ∙ among-finds block (flat_map f xs) there
