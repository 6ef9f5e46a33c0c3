-- A disk that is opened.
use Rattle.std.proofs.Common.{◌≡◌, ℕ, ◌≤◌, List, [], ◌∷◌, ◌++◌, length, drop, Option, None, Some, refl, sym, ◌∙◌, ap, subst, arith}
use Rattle.std.proofs.lemmas.List.{drop_all}
use Rattle.std.specs.Option.{option_map, IfSome, IsSomeAnd}
use Rattle.oz_world.specs.Disk.{Images, Stands, IsStable, overwritten}
use Rattle.oz_journal.specs.Grammar.{records}
use Rattle.oz_journal.specs.inner.Rest.{IsAtRest}
use Rattle.oz_journal.specs.Load.{IsLoadable}

-- a call that changes nothing
pub loadable_still : (told after : Option (List ℕ)) (a b : ℕ) (i j : Images) → after ≡ told → Stands a b i j → IfSome told (λ bytes. IsLoadable bytes (i a) → IsSomeAnd after (λ left. IsLoadable left (j b)))
loadable_still None after a b i j same stands = tt
loadable_still (Some bytes) after a b i j same stands = λ loadable.
    subst (λ (o : Option (List ℕ)). IsSomeAnd o (λ left. IsLoadable left (j b))) (sym same)
    (λ short left h. loadable short left ((stands.images a left).0 (subst (λ (n : ℕ). j n left) stands.moment h)))

empty_rests : (image : Images) (now : ℕ) → IsStable image now (0 ∷ []) → IsAtRest (0 ∷ []) 0 image now
unfolding records
empty_rests image now stable = record {
  bodies = [];
  grammar = record { sizes = tt; gate = 0; rest = []; closed = λ e. absurd (omega (arith, e)); parts = refl };
  place = refl;
  stable = stable;
}

-- what a disk tells and makes stable
pub stable_at : (told : Option (List ℕ)) (left : List ℕ) (image : Images) (now : ℕ) → told ≡ Some left → IfSome told (IsStable image now) → IsStable image now left
stable_at None left image now tells stable = absurd cc
stable_at (Some bytes) left image now tells stable = subst (IsStable image now) (cc tells) stable

-- a disk that has come to a closed gate and nothing else
pub gate_rests : (told : Option (List ℕ)) (left : List ℕ) (image : Images) (now : ℕ) → told ≡ Some left → left ≡ 0 ∷ [] → IfSome told (IsStable image now) → IsAtRest left 0 image now
gate_rests told left image now tells closed stable =
    subst (λ (l : List ℕ). IsAtRest l 0 image now) (sym closed) (empty_rests image now (subst (IsStable image now) closed (stable_at told left image now tells stable)))

-- a closed gate over at most one byte
pub closed_rests : (told after : Option (List ℕ)) (size : ℕ) (image : Images) (now : ℕ) → size ≤ 1 → IfSome told (λ bytes. size ≡ length bytes) → after ≡ option_map (overwritten 0 (0 ∷ [])) told → IfSome after (IsStable image now)
    → (left : List ℕ) → after ≡ Some left → IsAtRest left 0 image now
closed_rests None after size image now few is written stable left tells = absurd (cc (written, tells))
closed_rests (Some bytes) after size image now few is written stable left tells =
    let none : drop 1 bytes ≡ [] = drop_all 1 bytes (omega (arith, few, is)) in
    let closed : left ≡ (0 ∷ []) ++ drop 1 bytes = cc (tells, written) in
    gate_rests after left image now tells (closed ∙ ap (λ (l : List ℕ). 0 ∷ l) none) stable

-- a closed gate in the place of all that was there
pub emptied_rests : (told after : Option (List ℕ)) (image : Images) (now : ℕ) → after ≡ option_map (λ _. 0 ∷ []) told → IfSome after (IsStable image now) → (left : List ℕ) → after ≡ Some left → IsAtRest left 0 image now
emptied_rests None after image now written stable left tells = absurd (cc (written, tells))
emptied_rests (Some bytes) after image now written stable left tells =
    let closed : left ≡ 0 ∷ [] = cc (tells, written) in
    gate_rests after left image now tells closed stable
