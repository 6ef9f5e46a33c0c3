-- What loading leaves, where it adds the first entry and where it doesn't.
use Rattle.std.proofs.Common.{◌≡◌, ◌≢◌, ◌⊎◌, inl, inr, IfSome, OnErr, ℕ, ◌≤◌, ◌&&◌, leb, Bool, true, false, List, [], ◌∷◌, ◌++◌, Option, None, Some, Result, Ok, Err, refl, sym, ap, subst, ◌∙◌, arith}
use Rattle.std.proofs.lemmas.Bool.{cases_lt, false≢true, le-leb}
use Rattle.oz_scm.specs.declared.grants.entry.Entry.TheVariants.{Nodes}
use Rattle.oz_scm.specs.grants.Build.{Makes}
use Rattle.oz_scm.specs.grants.Entries.{entry_bytes}
use Rattle.oz_scm.specs.grants.Made.{Made, begun, is_node_count}
use Rattle.oz_scm.specs.grants.laws.Journals.{first_made, none_makes, none_made, one_thing}
use Rattle.oz_journal.specs.Appends.{Appends}
use Rattle.oz_journal.specs.Grammar.{IsJournal, TellsBodies}
use Rattle.oz_journal.specs.Load.{IsLoadable, IsLeftAlone}
use Rattle.oz_world.specs.Disk.{Images, Seen, seen, TellsAsBefore, IsStable}
use Rattle.oz_world.specs.Moments.{Spans}
use Rattle.oz_journal.specs.Journal.{State}
use Rattle.oz_scm.specs.declared.fault.ScmFault.{ScmFault}
use Rattle.oz_scm.specs.declared.fault.ScmFault.TheVariants.{Disk, Damaged, Nodes as Others, OutOfMemory}
use Rattle.oz_scm.specs.Scm.{StandsFor, StandsStill, Keeps, made_for, or_first}
use Rattle.oz_scm.proofs.Granting.{journal_of}

abbrev pub OneReading : Type 0
OneReading = (bytes : List ℕ) (bodies others : List (List ℕ)) → IsJournal bytes bodies → IsJournal bytes others → bodies ≡ others

abbrev pub LeftAlone : Type 0
LeftAlone = (before after : List ℕ) (bodies : List (List ℕ)) → IsLeftAlone before after → IsJournal before bodies → IsJournal after bodies

abbrev pub first_body : ℕ → List ℕ
first_body given = entry_bytes (Nodes given)

-- what was left alone stands for the same
alone_stands : LeftAlone → (given : ℕ) (before after : List ℕ) → IsLeftAlone before after → StandsStill given before after
alone_stands alone given before after left made stands = record {
  bodies = stands.bodies;
  journal = alone before after stands.bodies left stands.journal;
  found = stands.found;
  makes = stands.makes;
  is = stands.is;
  agrees = stands.agrees;
}

-- so does the first entry where there was none
first_stands : OneReading → (given : ℕ) → is_node_count given ≡ true → (before after : List ℕ) → IsJournal before [] → (IsJournal after [] ⊎ IsJournal after ([] ++ first_body given ∷ [])) → StandsStill given before after
first_stands one given many before after empty (inl same) made stands =
    let none = one before stands.bodies [] stands.journal empty in
    record { bodies = []; journal = same; found = stands.found; makes = subst (λ (b : List (List ℕ)). Makes b stands.found) none stands.makes; is = stands.is; agrees = stands.agrees }
first_stands one given many before after empty (inr more) made stands =
    let none = one before stands.bodies [] stands.journal empty in
    let found : stands.found ≡ None = one_thing [] stands.found None (subst (λ (b : List (List ℕ)). Makes b stands.found) none stands.makes) none_made in
    record { bodies = first_body given ∷ []; journal = more; found = Some (begun given); makes = first_made given many; is = stands.is ∙ ap (made_for given) found; agrees = stands.agrees }

module _ (alone : LeftAlone) (one : OneReading) (given : ℕ) (many : is_node_count given ≡ true) where
  -- loading added nothing
  pub alone_spans : (told : Option (List ℕ)) (before after : ℕ) (old new : Images) → IfSome told (λ bytes. IsLoadable bytes (old before) → Spans IsLeftAlone before after old new) → IfSome told (λ bytes. IsLoadable bytes (old before) → Spans (StandsStill given) before after old new)
  alone_spans None before after old new spans = tt
  alone_spans (Some bytes) before after old new spans = λ loadable.
      let first = spans loadable in
      record { elapses = first.elapses; made = λ t left from to has. let found = first.made t left from to has in (found.0, found.1, alone_stands alone given found.0 left found.2) }

  -- it added the first entry
  pub first_spans : {T E : Type 0} (told : Option (List ℕ)) (before : ℕ) (old : Images) (mid after : Seen) (result : Result T E) → IfSome told (λ bytes. IsLoadable bytes (old before) → Spans IsLeftAlone before mid.clock old mid.image)
      → ((bytes : List ℕ) → told ≡ Some bytes → old before bytes) → IfSome told (λ bytes. IsJournal bytes []) → IfSome told (λ bytes. TellsBodies mid.told []) → Appends {T = T} {E = E} (first_body given) mid after result
      → IfSome told (λ bytes. IsLoadable bytes (old before) → Spans (StandsStill given) before after.clock old after.image)
  first_spans None before old mid after result spans read empty tells appends = tt
  first_spans (Some bytes) before old mid after result spans read empty tells appends = λ loadable.
      let first = spans loadable in
      let time = appends.settled.time in
      record {
        elapses = record {
          later = omega (arith, first.elapses.later, time.later);
          kept = λ t left le. (
            λ new. (first.elapses.kept t left le).0 ((time.kept t left (omega (arith, le, first.elapses.later))).0 new),
            λ was. (time.kept t left (omega (arith, le, first.elapses.later))).1 ((first.elapses.kept t left le).1 was),
          );
        };
        made = λ t left from to has. elim (cases_lt mid.clock t) [
          | inl past ↦ (bytes, read bytes refl, first_stands one given many bytes left empty (appends.leaves [] tells t left (omega (arith, past)) to has))
          | inr within ↦
              let found = first.made t left from within ((time.kept t left within).0 has) in
              (found.0, found.1, alone_stands alone given found.0 left found.2)
        ];
      }

-- what was found stands, with the number of datanodes that it names
pub found_stands : (told : Option (List ℕ)) (bodies : List (List ℕ)) (found : Option Made) (given : ℕ) (made : Made) → IfSome told (λ bytes. IsJournal bytes bodies) → Makes bodies found → IfSome found (λ (m : Made). m.nodes ≡ given) → made ≡ made_for given found → IfSome told (λ bytes. StandsFor given bytes made)
found_stands None bodies found given made journal makes agrees is = tt
found_stands (Some bytes) bodies found given made journal makes agrees is = record { bodies = bodies; journal = journal; found = found; makes = makes; is = is; agrees = ap (λ (m : Made). m.nodes) is ∙ names found agrees }
  where
    names : (found : Option Made) → IfSome found (λ (m : Made). m.nodes ≡ given) → (made_for given found).nodes ≡ given
    names None agrees = refl
    names (Some made) agrees = agrees

pub named_so : (found : Option Made) (given : ℕ) (made : Made) → IfSome found (λ (m : Made). m.nodes ≡ given) → made ≡ made_for given found → made.nodes ≡ given
named_so None given made agrees is = ap (λ (m : Made). m.nodes) is
named_so (Some found) given made agrees is = ap (λ (m : Made). m.nodes) is ∙ agrees

-- no body, where nothing was found
pub empty_journal : (told : Option (List ℕ)) (bodies : List (List ℕ)) → Makes bodies None → IfSome told (λ bytes. IsJournal bytes bodies) → IfSome told (λ bytes. IsJournal bytes [])
empty_journal told bodies makes journal = subst (λ (b : List (List ℕ)). IfSome told (λ bytes. IsJournal bytes b)) (none_makes bodies makes) journal

pub empty_tells : (told mid : Option (List ℕ)) (bodies : List (List ℕ)) → Makes bodies None → IfSome told (λ bytes. TellsBodies mid bodies) → IfSome told (λ bytes. TellsBodies mid [])
empty_tells told mid bodies makes tells = subst (λ (b : List (List ℕ)). IfSome told (λ bytes. TellsBodies mid b)) (none_makes bodies makes) tells

-- a disk that tells told before
told_first : (before after : Option (List ℕ)) (bytes : List ℕ) → TellsAsBefore before after → after ≡ Some bytes → (old : List ℕ) × (before ≡ Some old)
told_first None after bytes as_before is = absurd (cc (sym (as_before.0 refl) ∙ is))
told_first (Some old) after bytes as_before is = (old, refl)

at_some : (P : List ℕ → Type 0) (told : Option (List ℕ)) (bytes : List ℕ) → told ≡ Some bytes → IfSome told P → P bytes
at_some P told bytes is all = subst (λ (o : Option (List ℕ)). IfSome o P) is all

-- what is kept where something was found, and where the first entry was added
pub found_keeps : (before after : Option (List ℕ)) (bodies : List (List ℕ)) (found made : Made) → TellsAsBefore before after → IfSome before (λ bytes. TellsBodies after bodies) → Makes bodies (Some found) → made ≡ found → Keeps after made
found_keeps before after bodies found made as_before tells makes is bytes told_so =
    let old = told_first before after bytes as_before told_so in
    let there : TellsBodies after bodies = at_some (λ (b : List ℕ). TellsBodies after bodies) before old.0 old.1 tells in
    (bodies, journal_of after bytes bodies told_so there, subst (λ (m : Made). Makes bodies (Some m)) (sym is) makes)

pub first_keeps : {T E : Type 0} (given : ℕ) (before : Option (List ℕ)) (mid after : Seen) (made : Made) (x : T) → is_node_count given ≡ true → TellsAsBefore before mid.told → IfSome before (λ bytes. TellsBodies mid.told []) → Appends {T = T} {E = E} (first_body given) mid after (Ok x) → made ≡ begun given → Keeps after.told made
first_keeps {T} {E} given before mid after made x many as_before tells appends is bytes told_so =
    let between = told_first mid.told after.told bytes appends.settled.telling told_so in
    let old = told_first before mid.told between.0 as_before between.1 in
    let there : TellsBodies mid.told [] = at_some (λ (b : List ℕ). TellsBodies mid.told []) before old.0 old.1 tells in
    (first_body given ∷ [], journal_of after.told bytes (first_body given ∷ []) told_so (appends.tells [] there), subst (λ (m : Made). Makes (first_body given ∷ []) (Some m)) (sym is) (first_made given many))

-- the bodies that are told
pub found_tells : OneReading → (told after : Option (List ℕ)) (given : ℕ) (bodies : List (List ℕ)) (found : Made) → IfSome told (λ bytes. IsJournal bytes bodies) → IfSome told (λ bytes. TellsBodies after bodies) → Makes bodies (Some found)
    → IfSome told (λ bytes. (others : List (List ℕ)) → IsJournal bytes others → TellsBodies after (or_first given others))
found_tells one None after given bodies found journal tells makes = tt
found_tells one (Some bytes) after given [] found journal tells makes = λ others other. absurd (cc (one_thing [] (Some found) None makes none_made))
found_tells one (Some bytes) after given (body ∷ bodies) found journal tells makes = λ others other.
    subst (λ (b : List (List ℕ)). TellsBodies after (or_first given b)) (one bytes (body ∷ bodies) others journal other) tells

pub first_tells : {T E : Type 0} → OneReading → (told : Option (List ℕ)) (given : ℕ) (mid after : Seen) (x : T) → IfSome told (λ bytes. IsJournal bytes []) → IfSome told (λ bytes. TellsBodies mid.told []) → Appends {T = T} {E = E} (first_body given) mid after (Ok x)
    → IfSome told (λ bytes. (others : List (List ℕ)) → IsJournal bytes others → TellsBodies after.told (or_first given others))
first_tells one None given mid after x journal tells appends = tt
first_tells one (Some bytes) given mid after x journal tells appends = λ others other.
    subst (λ (b : List (List ℕ)). TellsBodies after.told (or_first given b)) (one bytes [] others journal other) (appends.tells [] tells)

pub first_stable : {T E : Type 0} (mid after : Seen) (body : List ℕ) (x : T) → Appends {T = T} {E = E} body mid after (Ok x) → (bytes : List ℕ) → after.told ≡ Some bytes → IsStable after.image after.clock bytes
first_stable mid after body x appends bytes is = at_some (IsStable after.image after.clock) after.told bytes is appends.settled.stable

-- ---- both ways at once

module _ {D : Type 0} (told : D → Option (List ℕ)) (clock : D → ℕ) (image : D → Images) (faults : D → ℕ) (given : ℕ) where
  abbrev at : D → Seen
  at disk = seen (told disk) (clock disk) (image disk) (faults disk)

  -- the disk stays as it was loaded, or gets the first entry
  abbrev Goes : {T : Type 0} → Option Made → D → D → Result T ScmFault → Type 0
  Goes {T} found mid after result = (after ≡ mid) ⊎ ((found ≡ None) × Appends {T = T} {E = ScmFault} (first_body given) (at mid) (at after) result)

  abbrev GoesWell : {T : Type 0} → Option Made → D → D → T → Type 0
  GoesWell {T} (Some found) mid after x = after ≡ mid
  GoesWell {T} None mid after x = Appends {T = T} {E = ScmFault} (first_body given) (at mid) (at after) (Ok x)

  module _ {T : Type 0} (found : Option Made) (mid after : State D) (result : Result T ScmFault) (kept : (made : Made) → found ≡ Some made → (after ≡ mid) × OnErr result ⊥)
      (first : found ≡ None → result ≢ Err OutOfMemory → Appends {T = T} {E = ScmFault} (first_body given) (at mid.disk) (at after.disk) result) (no_memory : result ≡ Err OutOfMemory → after ≡ mid) where
    pub goes : Goes found mid.disk after.disk result
    goes = of_found found refl
      where
        of_result : found ≡ None → (r : Result T ScmFault) → result ≡ r → Goes found mid.disk after.disk result
        of_result none (Ok x) is = inr (none, first none (λ e. absurd (cc (sym is ∙ e))))
        of_result none (Err Disk) is = inr (none, first none (λ e. absurd (cc (sym is ∙ e))))
        of_result none (Err (Damaged offset)) is = inr (none, first none (λ e. absurd (cc (sym is ∙ e))))
        of_result none (Err (Others recorded other)) is = inr (none, first none (λ e. absurd (cc (sym is ∙ e))))
        of_result none (Err OutOfMemory) is = inl (ap (λ (j : State D). j.disk) (no_memory is))

        of_found : (f : Option Made) → found ≡ f → Goes found mid.disk after.disk result
        of_found (Some made) is = inl (ap (λ (j : State D). j.disk) (kept made is).0)
        of_found None is = of_result is result refl

    pub goes_well : (x : T) → result ≡ Ok x → GoesWell found mid.disk after.disk x
    goes_well x well = of_found found refl
      where
        of_found : (f : Option Made) → found ≡ f → GoesWell f mid.disk after.disk x
        of_found (Some made) is = ap (λ (j : State D). j.disk) (kept made is).0
        of_found None is = subst (λ (r : Result T ScmFault). Appends {T = T} {E = ScmFault} (first_body given) (at mid.disk) (at after.disk) r) well (first is (λ e. absurd (cc (sym well ∙ e))))

  -- what a stop leaves
  pub spans_of : {T : Type 0} (alone : LeftAlone) (one : OneReading) (many : is_node_count given ≡ true) (disk mid after : D) (bodies : List (List ℕ)) (found : Option Made) (result : Result T ScmFault)
      → IfSome (told disk) (λ bytes. IsLoadable bytes (image disk (clock disk)) → Spans IsLeftAlone (clock disk) (clock mid) (image disk) (image mid))
      → ((bytes : List ℕ) → told disk ≡ Some bytes → image disk (clock disk) bytes) → IfSome (told disk) (λ bytes. IsJournal bytes bodies) → IfSome (told disk) (λ bytes. TellsBodies (told mid) bodies) → Makes bodies found → Goes found mid after result
      → IfSome (told disk) (λ bytes. IsLoadable bytes (image disk (clock disk)) → Spans (StandsStill given) (clock disk) (clock after) (image disk) (image after))
  spans_of {T} alone one many disk mid after bodies found result spans read journal tells makes (inl same) =
      subst (λ (d : D). IfSome (told disk) (λ bytes. IsLoadable bytes (image disk (clock disk)) → Spans (StandsStill given) (clock disk) (clock d) (image disk) (image d))) (sym same)
      (alone_spans alone one given many (told disk) (clock disk) (clock mid) (image disk) (image mid) spans)
  spans_of {T} alone one many disk mid after bodies found result spans read journal tells makes (inr (none, appends)) =
      let nothing : Makes bodies None = subst (λ (f : Option Made). Makes bodies f) none makes in
      first_spans alone one given many {T = T} {E = ScmFault} (told disk) (clock disk) (image disk) (at mid) (at after) result spans read (empty_journal (told disk) bodies nothing journal) (empty_tells (told disk) (told mid) bodies nothing tells) appends

  -- what is kept once it is loaded
  pub keeps_of : {T : Type 0} (many : is_node_count given ≡ true) (disk mid after : D) (bodies : List (List ℕ)) (found : Option Made) (made : Made) (x : T) → TellsAsBefore (told disk) (told mid) → IfSome (told disk) (λ bytes. TellsBodies (told mid) bodies) → Makes bodies found → made ≡ made_for given found → GoesWell found mid after x
      → Keeps (told after) made
  keeps_of {T} many disk mid after bodies (Some found) made x as_before tells makes is same =
      subst (λ (d : D). Keeps (told d) made) (sym same) (found_keeps (told disk) (told mid) bodies found made as_before tells makes is)
  keeps_of {T} many disk mid after bodies None made x as_before tells makes is appends =
      first_keeps {T = T} {E = ScmFault} given (told disk) (at mid) (at after) made x many as_before (empty_tells (told disk) (told mid) bodies makes tells) appends is

  pub tells_after : {T : Type 0} (one : OneReading) (disk mid after : D) (bodies : List (List ℕ)) (found : Option Made) (x : T) → IfSome (told disk) (λ bytes. IsJournal bytes bodies) → IfSome (told disk) (λ bytes. TellsBodies (told mid) bodies) → Makes bodies found → GoesWell found mid after x
      → IfSome (told disk) (λ bytes. (others : List (List ℕ)) → IsJournal bytes others → TellsBodies (told after) (or_first given others))
  tells_after {T} one disk mid after bodies (Some found) x journal tells makes same =
      subst (λ (d : D). IfSome (told disk) (λ bytes. (others : List (List ℕ)) → IsJournal bytes others → TellsBodies (told d) (or_first given others))) (sym same)
      (found_tells one (told disk) (told mid) given bodies found journal tells makes)
  tells_after {T} one disk mid after bodies None x journal tells makes appends =
      first_tells {T = T} {E = ScmFault} one (told disk) given (at mid) (at after) x (empty_journal (told disk) bodies makes journal) (empty_tells (told disk) (told mid) bodies makes tells) appends

  pub stable_after : {T : Type 0} (mid after : D) (found : Option Made) (x : T) → ((bytes : List ℕ) → told mid ≡ Some bytes → IsStable (image mid) (clock mid) bytes) → GoesWell found mid after x → (bytes : List ℕ) → told after ≡ Some bytes → IsStable (image after) (clock after) bytes
  stable_after {T} mid after (Some found) x stable same = subst (λ (d : D). (bytes : List ℕ) → told d ≡ Some bytes → IsStable (image d) (clock d) bytes) (sym same) stable
  stable_after {T} mid after None x stable appends = first_stable {T = T} {E = ScmFault} (at mid) (at after) (first_body given) x appends

  -- nothing was added
  pub alone_of : (alone : LeftAlone) (one : OneReading) (many : is_node_count given ≡ true) (disk mid after : D) → after ≡ mid
      → IfSome (told disk) (λ bytes. IsLoadable bytes (image disk (clock disk)) → Spans IsLeftAlone (clock disk) (clock mid) (image disk) (image mid))
      → IfSome (told disk) (λ bytes. IsLoadable bytes (image disk (clock disk)) → Spans (StandsStill given) (clock disk) (clock after) (image disk) (image after))
  alone_of alone one many disk mid after same spans =
      subst (λ (d : D). IfSome (told disk) (λ bytes. IsLoadable bytes (image disk (clock disk)) → Spans (StandsStill given) (clock disk) (clock d) (image disk) (image d))) (sym same)
      (alone_spans alone one given many (told disk) (clock disk) (clock mid) (image disk) (image mid) spans)

-- so many datanodes there may be
pub counted : (count : ℕ) → 3 ≤ count → count ≤ 16 → is_node_count count ≡ true
counted count least most = both_true (leb 3 count) (leb count 16) (le-leb 3 count least) (le-leb count 16 most)
  where
    both_true : (a b : Bool) → a ≡ true → b ≡ true → (a && b) ≡ true
    both_true true b one two = two
    both_true false b one two = absurd (false≢true one)
