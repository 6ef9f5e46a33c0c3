-- What a test finds in a list, and ids and blocks that are one.
use Rattle.std.proofs.Common.{◌≡◌, ℕ, Bool, true, false, ◌&&◌, ◌||◌, ◌==◌, List, refl, sym, ◌∙◌, ap, Option, None, Some}
use Rattle.std.proofs.lemmas.Bool.{eqb-true, eq-eqb}
use Rattle.std.proofs.lemmas.List.Folds.{Any-from_list_any, list_any-from_Any, list_all_at}
use Rattle.std.proofs.lemmas.Map.Views.{Contains-from_any}
use Rattle.std.specs.Option.{is_none}
use Rattle.std.specs.List.{list_any, list_all, Contains, Any}
use Rattle.oz_fields.specs.declared.block.Block.{Block}
use Rattle.oz_requests.specs.declared.request.AskId.{AskId}
use Rattle.oz_core.specs.Asks.{is_id}
use Rattle.oz_core.specs.Nodes.{is_block}

pub false-true : {X : Type 0} → false ≡ true → X
false-true h = absurd (cc)

pub both : (a b : Bool) → (a && b) ≡ true → (a ≡ true) × (b ≡ true)
both true true h = (refl, refl)
both true false h = false-true h
both false b h = false-true h

pub neither : (a b : Bool) → (a || b) ≡ false → (a ≡ false) × (b ≡ false)
neither false false h = (refl, refl)
neither false true h = false-true (sym h)
neither true b h = false-true (sym h)

pub joined : (a b : Bool) → a ≡ true → b ≡ true → (a && b) ≡ true
joined a b is_a is_b = ap (λ (c : Bool). c && b) is_a ∙ is_b

pub nothing : {X : Type 0} (o : Option X) → is_none o ≡ true → o ≡ None
nothing None h = refl
nothing (Some x) h = false-true h

-- an element that passes, and that such an element is found
pub record Found {X : Type 0} (passes : X → Bool) (xs : List X) : Type 0 where
  pub item : X
  pub there : Contains xs item
  pub so : passes item ≡ true

pub found : {X : Type 0} (passes : X → Bool) (xs : List X) → list_any passes xs ≡ true → Found passes xs
found {X} passes xs h =
    let a : Any (λ (x : X). passes x ≡ true) xs = Any-from_list_any passes xs h in
    record { item = a.1; there = (a.0, a.2, a.3); so = a.4 }

pub finds : {X : Type 0} (passes : X → Bool) (xs : List X) (x : X) → Contains xs x → passes x ≡ true → list_any passes xs ≡ true
finds passes xs x there so = list_any-from_Any passes xs (there.0, x, there.1, there.2, so)

-- where all elements pass, each does
at-go : {X : Type 0} (passes : X → Bool) (xs : List X) (x : X) → Contains xs x → list_all passes xs ≡ true → (b : Bool) → passes x ≡ b → passes x ≡ true
at-go passes xs x there h true e = e
at-go passes xs x there h false e = false-true (sym (list_all_at passes xs there.0 x there.1 (ap passes there.2 ∙ e)) ∙ h)

pub at : {X : Type 0} (passes : X → Bool) (xs : List X) (x : X) → Contains xs x → list_all passes xs ≡ true → passes x ≡ true
at passes xs x there h = at-go passes xs x there h (passes x) refl

-- ids and blocks that a test takes for one are one
abbrev an_id : ℕ → ℕ → ℕ → AskId
an_id client line step = record { client = client; line = line; step = step }

pub same_id : (id other : AskId) → is_id id other ≡ true → other ≡ id
same_id id other h =
    let front : ((other.client == id.client && other.line == id.line) ≡ true) × ((other.step == id.step) ≡ true) = both (other.client == id.client && other.line == id.line) (other.step == id.step) h in
    let two : ((other.client == id.client) ≡ true) × ((other.line == id.line) ≡ true) = both (other.client == id.client) (other.line == id.line) front.0 in
    ap (λ (n : ℕ). an_id n other.line other.step) (eqb-true other.client id.client two.0)
    ∙ (ap (λ (n : ℕ). an_id id.client n other.step) (eqb-true other.line id.line two.1)
    ∙ ap (λ (n : ℕ). an_id id.client id.line n) (eqb-true other.step id.step front.1))

pub id_itself : (id : AskId) → is_id id id ≡ true
id_itself id =
    ap (λ (b : Bool). b && id.line == id.line && id.step == id.step) (eq-eqb id.client id.client refl)
    ∙ (ap (λ (b : Bool). b && id.step == id.step) (eq-eqb id.line id.line refl) ∙ eq-eqb id.step id.step refl)

abbrev a_block : ℕ → ℕ → Block
a_block container local = record { container = container; local = local }

pub same_block : (block other : Block) → is_block block other ≡ true → block ≡ other
same_block block other h =
    let two : ((other.container == block.container) ≡ true) × ((other.local == block.local) ≡ true) = both (other.container == block.container) (other.local == block.local) h in
    ap (λ (n : ℕ). a_block n block.local) (sym (eqb-true other.container block.container two.0))
    ∙ ap (λ (n : ℕ). a_block other.container n) (sym (eqb-true other.local block.local two.1))

pub block_itself : (block : Block) → is_block block block ≡ true
block_itself block = ap (λ (b : Bool). b && block.local == block.local) (eq-eqb block.container block.container refl) ∙ eq-eqb block.local block.local refl

pub among : (block : Block) (blocks : List Block) → list_any (is_block block) blocks ≡ true → Contains blocks block
among block blocks h = Contains-from_any same_block block blocks h

pub among-finds : (block : Block) (blocks : List Block) → Contains blocks block → list_any (is_block block) blocks ≡ true
among-finds block blocks there = finds (is_block block) blocks block there (block_itself block)
