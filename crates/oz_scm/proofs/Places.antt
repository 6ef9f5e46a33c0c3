-- Where the faults of bodies stand on a disk, and what bytes stand for.
use Rattle.std.proofs.Common.{◌≡◌, inl, inr, IfSome, Option, None, Some, ℕ, ◌+◌, ◌≤◌, ◌<◌, zero, suc, get_or, List, [], ◌∷◌, length, refl, sym, ◌∙◌, ap, subst, arith, slice_get, length-append}
use Rattle.oz_fields.specs.Number.{u32_bytes}
use Rattle.oz_scm.specs.grants.Build.{FailsAt, Makes}
use Rattle.oz_scm.specs.grants.Made.{Made}
use Rattle.oz_journal.specs.declared.body.Body.{Body}
use Rattle.oz_journal.specs.Body.{bodies_in, places_in}
use Rattle.oz_journal.specs.Grammar.{IsDamagedAt, IsJournal, places, records, sized}
use Rattle.oz_scm.specs.Scm.{IsDamagedDisk, IsFaultIn, IsOfNodes, StandsFor, made_for}

length-u32 : (n : ℕ) → length (u32_bytes n) ≡ 4
unfolding u32_bytes
length-u32 n = refl

length-sized : (body : List ℕ) → length (sized body) ≡ length body + 4
length-sized body = omega (arith, length-append (u32_bytes (length body)) body, length-u32 (length body))

-- the bytes of a body lie within the records
ends_within : (at : ℕ) (bodies : List (List ℕ)) (count begin : ℕ) (body : List ℕ) → slice_get (places at bodies) count ≡ Some begin → slice_get bodies count ≡ Some body → begin + length body ≤ at + length (records bodies)
unfolding places records
ends_within at [] count begin body begins is = absurd (cc is)
ends_within at (first ∷ bodies) zero begin body begins is =
    let start : at + 5 ≡ begin = cc begins in
    let same : first ≡ body = cc is in
    let size = ap length same in
    omega (arith, start, size, length-sized first, length-append (sized first) (records bodies))
ends_within at (first ∷ bodies) (suc count) begin body begins is =
    let rest = ends_within (at + 5 + length first) bodies count begin body begins is in
    omega (arith, rest, length-sized first, length-append (sized first) (records bodies))

place_there : (bodies : List Body) (i : ℕ) (body : Body) → slice_get bodies i ≡ Some body → slice_get (places_in bodies) i ≡ Some body.at
place_there [] i body is = absurd (cc is)
place_there (first ∷ bodies) zero body is =
    let same : first ≡ body = cc is in
    ap (λ (b : Body). Some b.at) same
place_there (first ∷ bodies) (suc i) body is = place_there bodies i body is

none_there : (bodies : List Body) (i : ℕ) → length bodies ≤ i → slice_get (bodies_in bodies) i ≡ None
none_there [] i past = refl
none_there (first ∷ bodies) zero past = absurd (omega (arith, past))
none_there (first ∷ bodies) (suc i) past = none_there bodies i (omega (arith, past))

-- a fault lies within one of the bodies
abbrev pub LieWithin : Type 0
LieWithin = (bodies : List (List ℕ)) (count place : ℕ) → FailsAt bodies count place → (body : List ℕ) × (slice_get bodies count ≡ Some body) × (place ≤ length body)

-- the body at fault is there
pub is_there : LieWithin → (bodies : List Body) (count at : ℕ) → FailsAt (bodies_in bodies) count at → length bodies ≤ count → ⊥
is_there lie bodies count at fails past =
    let within = lie (bodies_in bodies) count at fails in
    absurd (cc (sym (none_there bodies count past) ∙ within.1))

pub found_there : (bodies : List Body) (i : ℕ) (body : Body) → i < length bodies → body ≡ get_or bodies i body → slice_get bodies i ≡ Some body
found_there [] i body lt is = absurd (omega (arith, lt))
found_there (first ∷ bodies) zero body lt is = ap Some (sym is)
found_there (first ∷ bodies) (suc i) body lt is = found_there bodies i body (omega (arith, lt)) is

module _ (bodies : List Body) (count at : ℕ) (fails : FailsAt (bodies_in bodies) count at) (body : Body) (is : slice_get bodies count ≡ Some body) (placed : places_in bodies ≡ places 0 (bodies_in bodies)) where
  begins : slice_get (places 0 (bodies_in bodies)) count ≡ Some body.at
  begins = subst (λ (l : List ℕ). slice_get l count ≡ Some body.at) placed (place_there bodies count body is)

  pub fault_ends : LieWithin → body.at + at ≤ length (records (bodies_in bodies))
  fault_ends lie =
      let within = lie (bodies_in bodies) count at fails in
      let ends = ends_within 0 (bodies_in bodies) count body.at within.0 begins within.1 in
      omega (arith, within.2, ends)

  pub fault_in : IsFaultIn (bodies_in bodies) (body.at + at)
  fault_in = record { count = count; at = at; fails = fails; begin = body.at; begins = begins; place = refl }

pub damaged_journal : (told : Option (List ℕ)) (offset : ℕ) → IfSome told (λ bytes. IsDamagedAt bytes offset) → IfSome told (λ bytes. IsDamagedDisk bytes offset)
damaged_journal None offset damaged = tt
damaged_journal (Some bytes) offset damaged = inl damaged

pub damaged_body : (told : Option (List ℕ)) (bodies : List (List ℕ)) (offset : ℕ) → IfSome told (λ bytes. IsJournal bytes bodies) → IsFaultIn bodies offset → IfSome told (λ bytes. IsDamagedDisk bytes offset)
damaged_body None bodies offset journal fault = tt
damaged_body (Some bytes) bodies offset journal fault = inr (bodies, journal, fault)

pub other_nodes : (told : Option (List ℕ)) (bodies : List (List ℕ)) (recorded : ℕ) → IfSome told (λ bytes. IsJournal bytes bodies) → ((made : Made) × Makes bodies (Some made) × (made.nodes ≡ recorded)) → IfSome told (IsOfNodes recorded)
other_nodes None bodies recorded journal found = tt
other_nodes (Some bytes) bodies recorded journal (made, makes, names) = record { bodies = bodies; journal = journal; made = made; makes = makes; names = names }

-- bytes stand for one thing, or are damaged at one place
module _ (one_reading : (bytes : List ℕ) (bodies others : List (List ℕ)) → IsJournal bytes bodies → IsJournal bytes others → bodies ≡ others) (one_made : (bodies : List (List ℕ)) (found other : Option Made) → Makes bodies found → Makes bodies other → found ≡ other) where
  pub one_thing : (given : ℕ) (bytes : List ℕ) (made other : Made) → StandsFor given bytes made → StandsFor given bytes other → made ≡ other
  one_thing given bytes made other one two =
      let same = one_reading bytes one.bodies two.bodies one.journal two.journal in
      let found = one_made one.bodies one.found two.found one.makes (subst (λ (b : List (List ℕ)). Makes b two.found) (sym same) two.makes) in
      one.is ∙ (ap (made_for given) found ∙ sym two.is)

  pub one_number : (given recorded : ℕ) (bytes : List ℕ) (made : Made) → StandsFor given bytes made → IsOfNodes recorded bytes → recorded ≡ given
  one_number given recorded bytes made one two =
      let same = one_reading bytes one.bodies two.bodies one.journal two.journal in
      let found = one_made one.bodies one.found (Some two.made) one.makes (subst (λ (b : List (List ℕ)). Makes b (Some two.made)) (sym same) two.makes) in
      sym two.names ∙ (ap (λ (m : Made). m.nodes) (sym (one.is ∙ ap (made_for given) found)) ∙ one.agrees)

pub none_damaged : ((bytes : List ℕ) (bodies others : List (List ℕ)) → IsJournal bytes bodies → IsJournal bytes others → bodies ≡ others)
    → ((bytes : List ℕ) (bodies : List (List ℕ)) (offset : ℕ) → IsJournal bytes bodies → IsDamagedAt bytes offset → ⊥) → ((bodies : List (List ℕ)) (found : Option Made) (body at : ℕ) → Makes bodies found → FailsAt bodies body at → ⊥)
    → (bytes : List ℕ) (bodies : List (List ℕ)) (found : Option Made) (offset : ℕ) → IsJournal bytes bodies → Makes bodies found → IsDamagedDisk bytes offset → ⊥
none_damaged one_reading journal_or made_or bytes bodies found offset journal makes (inl damaged) = journal_or bytes bodies offset journal damaged
none_damaged one_reading journal_or made_or bytes bodies found offset journal makes (inr (others, second, fault)) =
    made_or bodies found fault.count fault.at makes (subst (λ (b : List (List ℕ)). FailsAt b fault.count fault.at) (one_reading bytes others bodies second journal) fault.fails)

pub one_place : ((bytes : List ℕ) (bodies others : List (List ℕ)) → IsJournal bytes bodies → IsJournal bytes others → bodies ≡ others)
    → ((bytes : List ℕ) (offset place : ℕ) → IsDamagedAt bytes offset → IsDamagedAt bytes place → offset ≡ place) → ((bytes : List ℕ) (bodies : List (List ℕ)) (offset : ℕ) → IsJournal bytes bodies → IsDamagedAt bytes offset → ⊥)
    → ((bodies : List (List ℕ)) (count place other at : ℕ) → FailsAt bodies count place → FailsAt bodies other at → (count ≡ other) × (place ≡ at)) → (bytes : List ℕ) (offset place : ℕ) → IsDamagedDisk bytes offset → IsDamagedDisk bytes place → offset ≡ place
one_place one_reading one journal_or one_fault bytes offset place (inl damaged) (inl more) = one bytes offset place damaged more
one_place one_reading one journal_or one_fault bytes offset place (inl damaged) (inr (others, second, fault)) = absurd (journal_or bytes others offset second damaged)
one_place one_reading one journal_or one_fault bytes offset place (inr (bodies, journal, fault)) (inl more) = absurd (journal_or bytes bodies place journal more)
one_place one_reading one journal_or one_fault bytes offset place (inr (bodies, journal, fault)) (inr (others, second, other)) =
    let same = one_reading bytes others bodies second journal in
    let both = one_fault bodies fault.count fault.at other.count other.at fault.fails (subst (λ (b : List (List ℕ)). FailsAt b other.count other.at) same other.fails) in
    let start : slice_get (places 0 bodies) fault.count ≡ Some other.begin = ap (slice_get (places 0 bodies)) both.0 ∙ (ap (λ (b : List (List ℕ)). slice_get (places 0 b) other.count) (sym same) ∙ other.begins) in
    let begin : fault.begin ≡ other.begin = cc (sym fault.begins ∙ start) in
    omega (arith, fault.place, other.place, both.1, begin)
