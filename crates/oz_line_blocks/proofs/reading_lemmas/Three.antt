-- Three members, one after the other.
use Rattle.std.proofs.Common.{◌≡◌, inl, inr, ℕ, List, [], ◌∷◌, length, get_or, Option, Some, refl, arith}
use Rattle.std.specs.Prelude.{Contains}
use Rattle.oz_core.specs.declared.event.Event.{Event}
use Rattle.oz_core.specs.declared.event.Node.{Node}
use Rattle.oz_core.specs.declared.opening.Opening.{Opening}
use Rattle.oz_core.specs.Contents.{OpeningBytes}
use Rattle.oz_fields.specs.declared.block.Piece.{Piece}
use Rattle.oz_script.specs.declared.lines.script.Script.{Script}
use Rattle.oz_requests.specs.declared.request.AskId.{AskId}
use Rattle.oz_turn.specs.Told.{BeginsWith}
use Rattle.oz_world.specs.Disk.{Images}
use Rattle.oz_line_blocks.specs.declared.reading.lack.Doubted.{Doubted}
use Rattle.oz_line_blocks.specs.declared.reading.lack.Lack.{Lack}
use Rattle.oz_line_blocks.specs.reading.Lacks.{IsAsked}
use Rattle.oz_line_blocks.specs.reading.Read.{AllLack, EndsShort, FirstGives, GaveAt, LacksAt}
use Rattle.oz_line_blocks.proofs.reading_lemmas.Told.{nothing_told}

pub as_three : (l : List ℕ) → length l ≡ 3 → l ≡ get_or l 0 0 ∷ get_or l 1 0 ∷ get_or l 2 0 ∷ []
as_three [] count = absurd (omega (arith, count))
as_three (x ∷ []) count = absurd (omega (arith, count))
as_three (x ∷ y ∷ []) count = absurd (omega (arith, count))
as_three (x ∷ y ∷ z ∷ []) count = refl
as_three (x ∷ y ∷ z ∷ w ∷ more) count = absurd (omega (arith, count))

pub third_contained : (l : List ℕ) → length l ≡ 3 → Contains l (get_or l 2 0)
third_contained [] count = absurd (omega (arith, count))
third_contained (x ∷ []) count = absurd (omega (arith, count))
third_contained (x ∷ y ∷ []) count = absurd (omega (arith, count))
third_contained (x ∷ y ∷ z ∷ more) count = (2, omega arith, refl)

module _ {D : Type 0} (told : D → Option (List ℕ)) (clock : D → ℕ) (image : D → Images) (faults : D → ℕ) (Coherent : Type 0) (opening : Opening) (bytes : OpeningBytes) (script : Script)
    (loaded : Node → ℕ) (id : AskId) (piece : Piece) (dns : List ℕ) (doubted : Doubted) where
  abbrev Gives : ℕ → List ℕ → List Event → List Event → Type 0
  Gives dn given seen later = IsAsked doubted dn × GaveAt told clock image faults Coherent opening bytes script loaded id piece dns dn (Some given) seen later

  abbrev Lacks : ℕ → Lack → List Event → List Event → Type 0
  Lacks = LacksAt told clock image faults Coherent opening bytes script loaded id piece dns doubted

  abbrev First : List ℕ → List ℕ → List Event → List Event → Type 0
  First = FirstGives told clock image faults Coherent opening bytes script loaded id piece dns doubted

  abbrev Short : List ℕ → List Event → List Event → Type 0
  Short = EndsShort told clock image faults Coherent opening bytes script loaded id piece dns doubted

  -- ---- the first that gives

  pub by_first : (members given : List ℕ) (seen later : List Event) → length members ≡ 3 → Gives (get_or members 0 0) given seen later → First members given seen later
  by_first [] given seen later count gave = absurd (omega (arith, count))
  by_first (x ∷ more) given seen later count gave = inl gave

  pub by_second : (members given : List ℕ) (one : Lack) (seen first later : List Event) → length members ≡ 3 → Lacks (get_or members 0 0) one seen first
      → Gives (get_or members 1 0) given first later → First members given seen later
  by_second [] given one seen first later count none gave = absurd (omega (arith, count))
  by_second (x ∷ []) given one seen first later count none gave = absurd (omega (arith, count))
  by_second (x ∷ y ∷ more) given one seen first later count none gave = inr (one, (first, (none, inl gave)))

  pub by_third : (members given : List ℕ) (one two : Lack) (seen first second later : List Event) → length members ≡ 3 → Lacks (get_or members 0 0) one seen first
      → Lacks (get_or members 1 0) two first second → Gives (get_or members 2 0) given second later → First members given seen later
  by_third [] given one two seen first second later count none none_too gave = absurd (omega (arith, count))
  by_third (x ∷ []) given one two seen first second later count none none_too gave = absurd (omega (arith, count))
  by_third (x ∷ y ∷ []) given one two seen first second later count none none_too gave = absurd (omega (arith, count))
  by_third (x ∷ y ∷ z ∷ more) given one two seen first second later count none none_too gave = inr (one, (first, (none, inr (two, (second, (none_too, inl gave))))))

  -- ---- none gives

  pub by_none : (members : List ℕ) (one two three : Lack) (seen first second later : List Event) → length members ≡ 3
      → Lacks (get_or members 0 0) one seen first → Lacks (get_or members 1 0) two first second → Lacks (get_or members 2 0) three second later
      → AllLack told clock image faults Coherent opening bytes script loaded id piece dns doubted members (one ∷ two ∷ three ∷ []) seen later
  by_none [] one two three seen first second later count a b c = absurd (omega (arith, count))
  by_none (x ∷ []) one two three seen first second later count a b c = absurd (omega (arith, count))
  by_none (x ∷ y ∷ []) one two three seen first second later count a b c = absurd (omega (arith, count))
  by_none (x ∷ y ∷ z ∷ []) one two three seen first second later count a b c = (first, (a, (second, (b, (later, (c, refl))))))
  by_none (x ∷ y ∷ z ∷ w ∷ more) one two three seen first second later count a b c = absurd (omega (arith, count))

  -- ---- memory is wanted

  pub short_at_once : (members : List ℕ) (seen later : List Event) → length members ≡ 3 → IsAsked doubted (get_or members 0 0) → BeginsWith later seen → Short members seen later
  short_at_once [] seen later count asked goes_on = absurd (omega (arith, count))
  short_at_once (x ∷ more) seen later count asked goes_on = inl (asked, nothing_told id seen later goes_on)

  pub short_one : (members : List ℕ) (one : Lack) (seen first later : List Event) → length members ≡ 3 → Lacks (get_or members 0 0) one seen first → IsAsked doubted (get_or members 1 0)
      → BeginsWith later first → Short members seen later
  short_one [] one seen first later count none asked goes_on = absurd (omega (arith, count))
  short_one (x ∷ []) one seen first later count none asked goes_on = absurd (omega (arith, count))
  short_one (x ∷ y ∷ more) one seen first later count none asked goes_on = inr (one, (first, (none, inl (asked, nothing_told id first later goes_on))))

  pub short_two : (members : List ℕ) (one two : Lack) (seen first second later : List Event) → length members ≡ 3 → Lacks (get_or members 0 0) one seen first
      → Lacks (get_or members 1 0) two first second → IsAsked doubted (get_or members 2 0) → BeginsWith later second → Short members seen later
  short_two [] one two seen first second later count none none_too asked goes_on = absurd (omega (arith, count))
  short_two (x ∷ []) one two seen first second later count none none_too asked goes_on = absurd (omega (arith, count))
  short_two (x ∷ y ∷ []) one two seen first second later count none none_too asked goes_on = absurd (omega (arith, count))
  short_two (x ∷ y ∷ z ∷ more) one two seen first second later count none none_too asked goes_on =
      inr (one, (first, (none, inr (two, (second, (none_too, inl (asked, nothing_told id second later goes_on)))))))
