-- Where the faults of bodies stand on a disk, and what its bytes are loaded as.
use Rattle.std.proofs.Common.{◌≡◌, inl, inr, IfSome, Option, None, Some, ℕ, ◌+◌, ◌≤◌, ◌<◌, zero, suc, get_or, List, [], ◌∷◌, length, refl, sym, ◌∙◌, ap, subst, arith, slice_get, length-append}
use Rattle.oz_effects.specs.Build.{Builds, FailsAt}
use Rattle.oz_fields.specs.Number.{u32_bytes}
use Rattle.oz_journal.specs.declared.body.Body.{Body}
use Rattle.oz_journal.specs.Body.{bodies_in, places_in}
use Rattle.oz_journal.specs.Grammar.{IsDamagedAt, IsJournal, TellsBodies, places, records, sized}
use Rattle.oz_journal.specs.Journal.{State}
use Rattle.oz_rows.specs.declared.entry.RowEntry.{RowEntry}
use Rattle.oz_loaded.specs.Loads.{IsDamagedDisk, IsFaultIn, IsLoaded}
use Rattle.oz_loaded.specs.Unseated.{UnseatedView}

length-u32 : (n : ℕ) → length (u32_bytes n) ≡ 4
unfolding u32_bytes
length-u32 n = refl

length-sized : (body : List ℕ) → length (sized body) ≡ length body + 4
length-sized body = omega (arith, length-append (u32_bytes (length body)) body, length-u32 (length body))

-- the bytes of a body lie within the records
ends_within : (at : ℕ) (bodies : List (List ℕ)) (count begin : ℕ) (body : List ℕ) → slice_get (places at bodies) count ≡ Some begin → slice_get bodies count ≡ Some body → begin + length body ≤ at + length (records bodies)
unfolding places records
ends_within at [] count begin body begins is = absurd (cc is)
ends_within at (first ∷ bodies) zero begin body begins is =
    let start : at + 5 ≡ begin = cc begins in
    let same : first ≡ body = cc is in
    let size = ap length same in
    omega (arith, start, size, length-sized first, length-append (sized first) (records bodies))
ends_within at (first ∷ bodies) (suc count) begin body begins is =
    let rest = ends_within (at + 5 + length first) bodies count begin body begins is in
    omega (arith, rest, length-sized first, length-append (sized first) (records bodies))

place_there : (bodies : List Body) (i : ℕ) (body : Body) → slice_get bodies i ≡ Some body → slice_get (places_in bodies) i ≡ Some body.at
place_there [] i body is = absurd (cc is)
place_there (first ∷ bodies) zero body is =
    let same : first ≡ body = cc is in
    ap (λ (b : Body). Some b.at) same
place_there (first ∷ bodies) (suc i) body is = place_there bodies i body is

none_there : (bodies : List Body) (i : ℕ) → length bodies ≤ i → slice_get (bodies_in bodies) i ≡ None
none_there [] i past = refl
none_there (first ∷ bodies) zero past = absurd (omega (arith, past))
none_there (first ∷ bodies) (suc i) past = none_there bodies i (omega (arith, past))

-- a fault lies within one of the bodies
abbrev pub LieWithin : Type 0
LieWithin = (bodies : List (List ℕ)) (count place : ℕ) → FailsAt bodies count place → (body : List ℕ) × (slice_get bodies count ≡ Some body) × (place ≤ length body)

-- the body at fault is there
pub is_there : LieWithin → (bodies : List Body) (count at : ℕ) → FailsAt (bodies_in bodies) count at → length bodies ≤ count → ⊥
is_there lie bodies count at fails past =
    let within = lie (bodies_in bodies) count at fails in
    absurd (cc (sym (none_there bodies count past) ∙ within.1))

pub found_there : (bodies : List Body) (i : ℕ) (body : Body) → i < length bodies → body ≡ get_or bodies i body → slice_get bodies i ≡ Some body
found_there [] i body lt is = absurd (omega (arith, lt))
found_there (first ∷ bodies) zero body lt is = ap Some (sym is)
found_there (first ∷ bodies) (suc i) body lt is = found_there bodies i body (omega (arith, lt)) is

module _ (bodies : List Body) (count at : ℕ) (fails : FailsAt (bodies_in bodies) count at) (body : Body) (is : slice_get bodies count ≡ Some body) (placed : places_in bodies ≡ places 0 (bodies_in bodies)) where
  begins : slice_get (places 0 (bodies_in bodies)) count ≡ Some body.at
  begins = subst (λ (l : List ℕ). slice_get l count ≡ Some body.at) placed (place_there bodies count body is)

  pub fault_ends : LieWithin → body.at + at ≤ length (records (bodies_in bodies))
  fault_ends lie =
      let within = lie (bodies_in bodies) count at fails in
      let ends = ends_within 0 (bodies_in bodies) count body.at within.0 begins within.1 in
      omega (arith, within.2, ends)

  pub fault_in : IsFaultIn (bodies_in bodies) (body.at + at)
  fault_in = record { count = count; at = at; fails = fails; begin = body.at; begins = begins; place = refl }

pub damaged_journal : (told : Option (List ℕ)) (offset : ℕ) → IfSome told (λ bytes. IsDamagedAt bytes offset) → IfSome told (λ bytes. IsDamagedDisk bytes offset)
damaged_journal None offset damaged = tt
damaged_journal (Some bytes) offset damaged = inl damaged

pub damaged_body : (told : Option (List ℕ)) (bodies : List (List ℕ)) (offset : ℕ) → IfSome told (λ bytes. IsJournal bytes bodies) → IsFaultIn bodies offset → IfSome told (λ bytes. IsDamagedDisk bytes offset)
damaged_body None bodies offset journal fault = tt
damaged_body (Some bytes) bodies offset journal fault = inr (bodies, journal, fault)

pub tells_journal : (told after : Option (List ℕ)) (bodies : List (List ℕ)) → IfSome told (λ bytes. IsJournal bytes bodies) → IfSome told (λ _. TellsBodies after bodies)
    → IfSome told (λ bytes. IsJournal bytes bodies × TellsBodies after bodies)
tells_journal None after bodies journal tells = tt
tells_journal (Some bytes) after bodies journal tells = (journal, tells)

-- bytes are loaded as one thing, or are damaged at one place
module _ (one_reading : (bytes : List ℕ) (bodies others : List (List ℕ)) → IsJournal bytes bodies → IsJournal bytes others → bodies ≡ others) where
  pub one_thing : ((bodies : List (List ℕ)) (all other : List RowEntry) (index last : ℕ) → Builds bodies all index → Builds bodies other last → (all ≡ other) × (index ≡ last))
      → (bytes : List ℕ) (bodies others : List (List ℕ)) (unseated other : UnseatedView) → IsJournal bytes bodies → (this : IsLoaded bodies unseated) → IsJournal bytes others → (that : IsLoaded others other)
      → (this.all ≡ that.all) × (unseated.last_index ≡ other.last_index)
  one_thing one bytes bodies others unseated other journal this second that =
      one bodies this.all that.all unseated.last_index other.last_index this.builds (subst (λ (b : List (List ℕ)). Builds b that.all other.last_index) (one_reading bytes others bodies second journal) that.builds)

  pub not_both : ((bytes : List ℕ) (bodies : List (List ℕ)) (offset : ℕ) → IsJournal bytes bodies → IsDamagedAt bytes offset → ⊥) → ((bodies : List (List ℕ)) (all : List RowEntry) (index count place : ℕ) → Builds bodies all index → FailsAt bodies count place → ⊥)
      → (bytes : List ℕ) (bodies : List (List ℕ)) (unseated : UnseatedView) (offset : ℕ) → IsJournal bytes bodies → IsLoaded bodies unseated → IsDamagedDisk bytes offset → ⊥
  not_both journal_or built_or bytes bodies unseated offset journal loaded (inl damaged) = journal_or bytes bodies offset journal damaged
  not_both journal_or built_or bytes bodies unseated offset journal loaded (inr (others, second, fault)) =
      built_or bodies loaded.all unseated.last_index fault.count fault.at loaded.builds (subst (λ (b : List (List ℕ)). FailsAt b fault.count fault.at) (one_reading bytes others bodies second journal) fault.fails)

  pub one_place : ((bytes : List ℕ) (offset place : ℕ) → IsDamagedAt bytes offset → IsDamagedAt bytes place → offset ≡ place) → ((bytes : List ℕ) (bodies : List (List ℕ)) (offset : ℕ) → IsJournal bytes bodies → IsDamagedAt bytes offset → ⊥)
      → ((bodies : List (List ℕ)) (count place other at : ℕ) → FailsAt bodies count place → FailsAt bodies other at → (count ≡ other) × (place ≡ at)) → (bytes : List ℕ) (offset place : ℕ) → IsDamagedDisk bytes offset → IsDamagedDisk bytes place → offset ≡ place
  one_place one journal_or one_fault bytes offset place (inl damaged) (inl more) = one bytes offset place damaged more
  one_place one journal_or one_fault bytes offset place (inl damaged) (inr (others, second, fault)) = absurd (journal_or bytes others offset second damaged)
  one_place one journal_or one_fault bytes offset place (inr (bodies, journal, fault)) (inl more) = absurd (journal_or bytes bodies place journal more)
  one_place one journal_or one_fault bytes offset place (inr (bodies, journal, fault)) (inr (others, second, other)) =
      let same = one_reading bytes others bodies second journal in
      let both = one_fault bodies fault.count fault.at other.count other.at fault.fails (subst (λ (b : List (List ℕ)). FailsAt b other.count other.at) same other.fails) in
      let start : slice_get (places 0 bodies) fault.count ≡ Some other.begin = ap (slice_get (places 0 bodies)) both.0 ∙ (ap (λ (b : List (List ℕ)). slice_get (places 0 b) other.count) (sym same) ∙ other.begins) in
      let begin : fault.begin ≡ other.begin = cc (sym fault.begins ∙ start) in
      omega (arith, fault.place, other.place, both.1, begin)

-- what holds of a disk holds of it as the flusher has it
pub moved : {D : Type 0} {before after : State D} → after ≡ before → (P : D → Type 0) → P before.disk → P after.disk
moved {D} same P holds = subst (λ (state : State D). P state.disk) (sym same) holds
