-- Bodies one after another.
use Rattle.std.proofs.Common.{
  ◌≡◌,
  ℕ,
  Option,
  None,
  Some,
  is_some,
  false,
  Result,
  zero,
  suc,
  ◌<◌,
  ◌≤◌,
  ◌-◌,
  List,
  [],
  ◌∷◌,
  ◌++◌,
  length,
  take,
  drop,
  get_or,
  refl,
  sym,
  ◌∙◌,
  ap,
  subst,
  arith,
  slice_get,
  Ok,
  Err,
}
use Rattle.std.proofs.lemmas.Bool.{false≢true}
use Rattle.std.proofs.lemmas.List.{append-nil}
use Rattle.oz_journal.specs.declared.body.Body.{Body}
use Rattle.oz_journal.specs.Body.{bodies_in}
use Rattle.oz_rows.specs.declared.fault.ReadFault.{ReadFault}
use Rattle.oz_rows.specs.declared.fault.ReadFault.TheVariants as reads
use Rattle.oz_entries.specs.declared.entry.Entry.{Entry}
use Rattle.oz_entries.specs.declared.fault.BuildFault.TheVariants as faults
use Rattle.oz_entries.specs.declared.entry.Entry.TheVariants.{Put, SetState, Apply, Drop}
use Rattle.oz_entries.specs.declared.row.BlockRow.{BlockRow}
use Rattle.oz_entries.specs.Entries.{entry_bytes}
use Rattle.oz_entries.specs.Reading.{entry_at}
use Rattle.oz_entries.specs.Held.{IsSound}
use Rattle.oz_entries.specs.laws.Reads.{entry_reads, as_read}
use Rattle.oz_entries.specs.laws.Sound.{sound_with, sound_without}
use Rattle.oz_entries.specs.Node.{Node, empty_node, after_entry, MayFollow, names, is_in}
use Rattle.oz_entries.specs.Build.{IsNext, MakesFrom, Makes, IsDamagedBody, EntryEnds, FailsFrom, FailsAt}
use Rattle.oz_entries.specs.Steps.{Follows, IfLeft, fault_in}

-- one body more
pub makes_push : (before : Node) (bodies : List (List ℕ)) (between : Node) (bytes : List ℕ) (entry : Entry) → MakesFrom before bodies between
    → IsNext between bytes entry → MakesFrom before (bodies ++ bytes ∷ []) (after_entry entry between)
unfolding MakesFrom
makes_push before [] between bytes entry makes next =
    (entry, subst (λ (node : Node). IsNext node bytes entry) makes next, ap (λ (node : Node). after_entry entry node) makes)
makes_push before (first ∷ bodies) between bytes entry (one, is, makes) next =
    (one, is, makes_push (after_entry one before) bodies between bytes entry makes next)

-- behind so many good bodies stands one that is damaged
fails_push : (before : Node) (bodies : List (List ℕ)) (between : Node) (bytes : List ℕ) (later : List (List ℕ)) (place : ℕ)
    → MakesFrom before bodies between → IsDamagedBody between bytes place → FailsFrom before (bodies ++ bytes ∷ later) (length bodies) place
unfolding MakesFrom FailsFrom
fails_push before [] between bytes later place makes damaged = subst (λ (node : Node). IsDamagedBody node bytes place) makes damaged
fails_push before (first ∷ bodies) between bytes later place (one, is, makes) damaged =
    (one, is, fails_push (after_entry one before) bodies between bytes later place makes damaged)

pub none_made : (node : Node) → node ≡ empty_node → Makes [] node
unfolding MakesFrom
none_made node is = is

bodies_more : (bodies : List Body) (k : ℕ) (body : Body) → k < length bodies → body ≡ get_or bodies k body
    → bodies_in (take (suc k) bodies) ≡ bodies_in (take k bodies) ++ body.bytes ∷ []
bodies_more [] k body lt it = absurd (omega arith)
bodies_more (first ∷ bodies) zero body lt it = ap (λ (body : Body). body.bytes ∷ []) (sym it)
bodies_more (first ∷ bodies) (suc k) body lt it = ap (λ (texts : List (List ℕ)). first.bytes ∷ texts) (bodies_more bodies k body (omega arith) it)

pub one_more_made : (bodies : List Body) (k : ℕ) (body : Body) (before after : Node) → k < length bodies → body ≡ get_or bodies k body
    → Makes (bodies_in (take k bodies)) before → Follows before body.bytes after → Makes (bodies_in (take (suc k) bodies)) after
one_more_made bodies k body before after lt it so_far follows =
    subst (λ (texts : List (List ℕ)). Makes texts after) (sym (bodies_more bodies k body lt it))
    (subst (λ (node : Node). Makes (bodies_in (take k bodies) ++ body.bytes ∷ []) node) (sym follows.is)
    (makes_push empty_node (bodies_in (take k bodies)) before body.bytes follows.entry so_far follows.next))

bodies_split : (a : List Body) (body : Body) (b : List Body) → bodies_in (a ++ body ∷ b) ≡ bodies_in a ++ body.bytes ∷ bodies_in b
bodies_split [] body b = refl
bodies_split (first ∷ a) body b = ap (λ (texts : List (List ℕ)). first.bytes ∷ texts) (bodies_split a body b)

so_many : (bodies : List Body) (k : ℕ) → k ≤ length bodies → length (bodies_in (take k bodies)) ≡ k
so_many bodies zero le = refl
so_many [] (suc k) le = absurd (omega arith)
so_many (first ∷ bodies) (suc k) le = let rest = so_many bodies k (omega arith) in omega (arith, rest)

parts_at : (bodies : List Body) (k : ℕ) (d : Body) → k < length bodies → bodies ≡ take k bodies ++ get_or bodies k d ∷ drop (suc k) bodies
parts_at [] k d lt = absurd (omega arith)
parts_at (first ∷ bodies) zero d lt = refl
parts_at (first ∷ bodies) (suc k) d lt = ap (λ (l : List Body). first ∷ l) (parts_at bodies k d (omega arith))

fails_here : (bodies : List Body) (k : ℕ) (body : Body) (before : Node) (place : ℕ) → k < length bodies → body ≡ get_or bodies k body
    → Makes (bodies_in (take k bodies)) before → IsDamagedBody before body.bytes place → FailsAt (bodies_in bodies) k place
fails_here bodies k body before place lt it so_far damaged =
    let parts = parts_at bodies k body lt ∙ ap (λ (other : Body). take k bodies ++ other ∷ drop (suc k) bodies) (sym it) in
    subst (λ (texts : List (List ℕ)). FailsFrom empty_node texts k place) (sym (ap bodies_in parts ∙ bodies_split (take k bodies) body (drop (suc k) bodies)))
    (subst (λ (n : ℕ). FailsFrom empty_node (bodies_in (take k bodies) ++ body.bytes ∷ bodies_in (drop (suc k) bodies)) n place)
    (so_many bodies k (omega arith))
    (fails_push empty_node (bodies_in (take k bodies)) before body.bytes (bodies_in (drop (suc k) bodies)) place so_far damaged))

pub damaged_here : (bodies : List Body) (k : ℕ) (body : Body) (before : Node) (fault : ReadFault) → k < length bodies → body ≡ get_or bodies k body
    → Makes (bodies_in (take k bodies)) before
    → IfLeft (λ left. IsDamagedBody before body.bytes (length body.bytes - left)) fault → (count place : ℕ)
    → fault_in k body.bytes fault ≡ faults.Damaged count place → FailsAt (bodies_in bodies) count place
damaged_here bodies k body before (reads.Left left) lt it so_far damaged count place is =
    let same_count : k ≡ count = cc in
    let same_place : length body.bytes - left ≡ place = cc in
    subst (λ (count : ℕ). FailsAt (bodies_in bodies) count place) same_count
    (subst (λ (place : ℕ). FailsAt (bodies_in bodies) k place) same_place
    (fails_here bodies k body before (length body.bytes - left) lt it so_far damaged))
damaged_here bodies k body before reads.OutOfMemory lt it so_far damaged count place is = absurd cc

-- an entry is read from its bytes
next_again : (node : Node) (bytes : List ℕ) (entry : Entry) → IsNext node bytes entry → entry_at node bytes ≡ as_read (entry, [])
next_again node bytes entry next = ap (entry_at node) (next.spelled ∙ sym (append-nil (entry_bytes entry)))
    ∙ (entry_reads node).reads_back entry [] next.follows

one_entry : (node : Node) (bytes : List ℕ) (entry other : Entry) → IsNext node bytes entry → IsNext node bytes other → entry ≡ other
one_entry node bytes entry other one two = same (entry, []) (other, []) (sym (next_again node bytes entry one) ∙ next_again node bytes other two)
  where
    same : (p q : Entry × List ℕ) → as_read p ≡ as_read q → p.0 ≡ q.0
    same p q e = let both : p ≡ q = cc e in ap (λ (r : Entry × List ℕ). r.0) both

pub one_node : (bodies : List (List ℕ)) (before after other : Node) → MakesFrom before bodies after → MakesFrom before bodies other → after ≡ other
unfolding MakesFrom
one_node [] before after other makes more = makes ∙ sym more
one_node (bytes ∷ bodies) before after other (one, is, makes) (two, too, more) =
    one_node bodies (after_entry one before) after other makes
    (subst (λ (e : Entry). MakesFrom (after_entry e before) bodies other) (one_entry before bytes two one too is) more)

pub not_both : (bodies : List (List ℕ)) (before after : Node) (count place : ℕ) → MakesFrom before bodies after → FailsFrom before bodies count place → ⊥
unfolding MakesFrom FailsFrom
not_both [] before after count place makes fails = fails
not_both (bytes ∷ bodies) before after zero place (one, is, makes) fails =
    let over : EntryEnds bytes place (as_read (one, [])) =
    subst (λ (read : Result (Entry × List ℕ) ℕ). EntryEnds bytes place read) (next_again before bytes one is) fails in
    absurd (omega (arith, over.0))
not_both (bytes ∷ bodies) before after (suc count) place (one, is, makes) (two, too, fails) =
    not_both bodies (after_entry one before) after count place makes
    (subst (λ (e : Entry). FailsFrom (after_entry e before) bodies count place) (one_entry before bytes two one too is) fails)

-- a body that may follow isn't damaged
no_damage : (node : Node) (bytes : List ℕ) (entry : Entry) (place : ℕ) → IsNext node bytes entry → IsDamagedBody node bytes place → ⊥
no_damage node bytes entry place next damaged =
    let over : EntryEnds bytes place (as_read (entry, [])) =
    subst (λ (read : Result (Entry × List ℕ) ℕ). EntryEnds bytes place read) (next_again node bytes entry next) damaged in
    absurd (omega (arith, over.0))

one_place : (bytes : List ℕ) (place at : ℕ) (read : Result (Entry × List ℕ) ℕ) → EntryEnds bytes place read → EntryEnds bytes at read → place ≡ at
one_place bytes place at (Ok found) one two = one.1 ∙ sym two.1
one_place bytes place at (Err left) one two = one ∙ sym two

pub one_fault : (bodies : List (List ℕ)) (before : Node) (count place other at : ℕ) → FailsFrom before bodies count place → FailsFrom before bodies other at
    → (count ≡ other) × (place ≡ at)
unfolding FailsFrom
one_fault [] before count place other at one two = absurd one
one_fault (bytes ∷ bodies) before zero place zero at one two = (refl, one_place bytes place at (entry_at before bytes) one two)
one_fault (bytes ∷ bodies) before zero place (suc other) at one (entry, is, fails) = absurd (no_damage before bytes entry place is one)
one_fault (bytes ∷ bodies) before (suc count) place zero at (entry, is, fails) two = absurd (no_damage before bytes entry at is two)
one_fault (bytes ∷ bodies) before (suc count) place (suc other) at (entry, is, fails) (second, too, more) =
    let same = one_fault bodies (after_entry entry before) count place other at fails
    (subst (λ (e : Entry). FailsFrom (after_entry e before) bodies other at) (one_entry before bytes second entry too is) more) in
    (ap suc same.0, same.1)

ends_within : (bytes : List ℕ) (place : ℕ) (read : Result (Entry × List ℕ) ℕ) → EntryEnds bytes place read → place ≤ length bytes
ends_within bytes place (Ok found) ends = omega (arith, ends.1)
ends_within bytes place (Err left) ends = omega (arith, ends)

pub fault_within : (bodies : List (List ℕ)) (before : Node) (count place : ℕ) → FailsFrom before bodies count place → (body : List ℕ)
    × (slice_get bodies count ≡ Some body) × (place ≤ length body)
unfolding FailsFrom
fault_within [] before count place fails = absurd fails
fault_within (bytes ∷ bodies) before zero place fails = (bytes, refl, ends_within bytes place (entry_at before bytes) fails)
fault_within (bytes ∷ bodies) before (suc count) place (entry, is, fails) = fault_within bodies (after_entry entry before) count place fails

-- a block uses the slots of its row alone
sound_after : (node : Node) (entry : Entry) → IsSound node → MayFollow node entry → IsSound (after_entry entry node)
sound_after node (Put block row) sound follows = sound_with block row node sound (none_of (node.rows block) follows.2) follows.3.chunks
  where
    none_of : (o : Option BlockRow) → is_some o ≡ false → o ≡ None
    none_of None is = refl
    none_of (Some x) is = absurd (false≢true (sym is))
sound_after node (SetState container state) sound follows = sound
sound_after node (Apply txn) sound follows = sound_without (names txn) node sound
sound_after node (Drop container) sound follows = sound_without (is_in container) node sound

pub sound_made : (bodies : List (List ℕ)) (before after : Node) → IsSound before → MakesFrom before bodies after → IsSound after
unfolding MakesFrom
sound_made [] before after sound makes = subst IsSound (sym makes) sound
sound_made (bytes ∷ bodies) before after sound (one, is, makes) =
    sound_made bodies (after_entry one before) after (sound_after before one sound is.follows) makes

pub empty_sound : IsSound empty_node
empty_sound slot block = refl
