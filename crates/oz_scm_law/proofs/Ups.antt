-- Which datanodes are up, and how many of three.
use Rattle.std.proofs.Common.{◌≡◌, ℕ, ◌+◌, ◌<◌, ◌≤◌, Bool, true, false, cond, List, [], ◌∷◌, length, refl, arith}
use Rattle.std.proofs.Math.ListN.{get_or-eq_default}
use Rattle.std.proofs.lemmas.List.FromFn.{get_or-map-range_with_len, length-map-range_with_len}
use Rattle.std.specs.List.{count_by}
use mir.Val.{bool_byte}
use Rattle.oz_core.specs.declared.event.Event.{Event}
use Rattle.oz_core.specs.declared.opening.Opening.{Opening}
use Rattle.oz_core.specs.Scm.{is_up, ups}
use Rattle.oz_nodes.specs.Pipelines.{is_node_up}

pub as_many : (opening : Opening) (story : List Event) → length (ups opening story) ≡ length opening.nodes
as_many opening story = length-map-range_with_len (λ (dn : ℕ). is_up dn story) 0 (length opening.nodes)

pub node_there : (opening : Opening) (story : List Event) (dn : ℕ) → dn < length opening.nodes → is_node_up (ups opening story) dn ≡ is_up dn story
node_there opening story dn there = get_or-map-range_with_len (λ (n : ℕ). is_up n story) 0 (length opening.nodes) dn dn false there (omega arith)

pub node_past : (opening : Opening) (story : List Event) (dn : ℕ) → length opening.nodes ≤ dn → is_node_up (ups opening story) dn ≡ false
node_past opening story dn past =
    let beyond : length (ups opening story) ≤ dn = omega (arith, as_many opening story, past) in
    get_or-eq_default (ups opening story) false beyond

three-go : (a b c : Bool) → ((0 + cond a 1 0) + cond b 1 0) + cond c 1 0 ≡ (bool_byte a + bool_byte b) + bool_byte c
three-go true true true = refl
three-go true true false = refl
three-go true false true = refl
three-go true false false = refl
three-go false true true = refl
three-go false true false = refl
three-go false false true = refl
three-go false false false = refl

pub of_three : (p : ℕ → Bool) (x y z : ℕ) → count_by p (x ∷ y ∷ z ∷ []) ≡ (bool_byte (p x) + bool_byte (p y)) + bool_byte (p z)
of_three p x y z = three-go (p x) (p y) (p z)
