use Rattle.std.proofs.Common.{◌≡◌, ℕ, ◌+◌, zero, suc, List, [], ◌∷◌, ◌++◌, None, All, IfSome, length, slice_get, sym, ap, subst, length-append, arith}
use Rattle.std.proofs.lemmas.List.Elements.{All-push}
use Rattle.oz_host.specs.Folder.{AreNodeFilesIn}
use Rattle.oz_host.proofs.folder.nodes_in.Goals as goal

-- what holds of each element at its place, with one more behind them
placed_behind : {X : Type 0} (P : ℕ → X → Type 0) (xs : List X) (x : X) → ((i : ℕ) → IfSome (slice_get xs i) (P i)) → P (length xs) x → (i : ℕ) → IfSome (slice_get (xs ++ x ∷ []) i) (P i)
placed_behind P [] x placed last zero = last
placed_behind P [] x placed last (suc i) = tt
placed_behind P (first ∷ xs) x placed last zero = placed zero
placed_behind P (first ∷ xs) x placed last (suc i) = placed_behind (λ place. P (suc place)) xs x (λ place. placed (suc place)) last i

placed_pushed : {X : Type 0} (P : ℕ → X → Type 0) (xs new : List X) (x : X) (place : ℕ) → new ≡ xs ++ x ∷ [] → length xs ≡ place → ((i : ℕ) → IfSome (slice_get xs i) (P i)) → P place x → (i : ℕ) → IfSome (slice_get new i) (P i)
placed_pushed P xs new x place is long placed last i =
    subst (λ items. IfSome (slice_get items i) (P i)) (sym is) (placed_behind P xs x placed (subst (λ place. P place x) (sym long) last) i)

all_pushed : {X : Type 0} (P : X → Type 0) (xs new : List X) (x : X) → new ≡ xs ++ x ∷ [] → All P xs → P x → All P new
all_pushed P xs new x is all last = subst (All P) (sym is) (All-push P xs x all last)

longer : {X : Type 0} (xs new : List X) (x : X) (long : ℕ) → new ≡ xs ++ x ∷ [] → length xs ≡ long → length new ≡ long + 1
longer xs new x long is was = omega (arith, ap length is, length-append xs (x ∷ []), was)

pub loop-dn-preserved : goal.loop-dn-preserved
loop-dn-preserved g c = record {
  count = longer _ _ _ c.loop-dn.dn c.push_reserved.ensures.items c.loop-dn.invariant.count;
  room = omega (arith, c.loop-dn.invariant.room, c.push_reserved.ensures.capacity);
  places = placed_pushed (λ dn node. AreNodeFilesIn c.args.dir.now dn node.meta node.slots) _ _ _ c.loop-dn.dn c.push_reserved.ensures.items c.loop-dn.invariant.count c.loop-dn.invariant.places c.in_ok-node_in.ensures.places;
  unopened = all_pushed (λ node. (node.meta.file ≡ None) × (node.slots.file ≡ None)) _ _ _ c.push_reserved.ensures.items c.loop-dn.invariant.unopened c.in_ok-node_in.ensures.unopened;
}
