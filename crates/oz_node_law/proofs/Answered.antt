-- Members that have answered.
use Rattle.std.proofs.Common.{◌≡◌, ℕ, Bool, true, false, ◌||◌, ◌⊎◌, inl, inr, List, refl}
use Rattle.std.proofs.lemmas.List.Elements.{All-weaker}
use Rattle.std.proofs.lemmas.List.Sums.{AllPass-from_list_all, list_all-from_AllPass}
use Rattle.std.specs.List.{list_all, All}
use Rattle.oz_fields.specs.declared.block.Block.{Block}
use Rattle.oz_requests.specs.declared.request.AskId.{AskId}
use Rattle.oz_core.specs.declared.event.Event.{Event}
use Rattle.oz_core.specs.Law.{puts, refuses}
use Rattle.oz_core.specs.Stories.{has_event}
use Rattle.oz_node_law.specs.Words.{has_answered}

either : (a b : Bool) → (a || b) ≡ true → (a ≡ true) ⊎ (b ≡ true)
either true b h = inl refl
either false b h = inr h

one-of : (a b : Bool) → (a ≡ true) ⊎ (b ≡ true) → (a || b) ≡ true
one-of true b h = refl
one-of false true h = refl
one-of false false (inl h) = h
one-of false false (inr h) = h

abbrev pub Answers : List Event → Block → AskId → ℕ → Type 0
Answers story block id dn = (has_event (puts dn block) story ≡ true) ⊎ (has_event (refuses dn block id) story ≡ true)

pub answered : (story : List Event) (block : Block) (id : AskId) (dns : List ℕ) → list_all (has_answered story block id) dns ≡ true → All (Answers story block id) dns
answered story block id dns h =
    All-weaker (λ (dn : ℕ). has_answered story block id dn ≡ true) (Answers story block id) (λ dn is. either (has_event (puts dn block) story) (has_event (refuses dn block id) story) is) dns (AllPass-from_list_all (has_answered story block id) dns h)

pub answered-by : (story : List Event) (block : Block) (id : AskId) (dns : List ℕ) → All (Answers story block id) dns → list_all (has_answered story block id) dns ≡ true
answered-by story block id dns all =
    list_all-from_AllPass (has_answered story block id) dns (All-weaker (Answers story block id) (λ (dn : ℕ). has_answered story block id dn ≡ true) (λ dn is. one-of (has_event (puts dn block) story) (has_event (refuses dn block id) story) is) dns all)
