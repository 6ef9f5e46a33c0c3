-- Each client's lines are numbered from 1.
use Rattle.std.proofs.Common.{◌≡◌, ℕ, ◌+◌, ◌<◌, ◌≤◌, ◌≢◌, Bool, true, false, cond, List, [], ◌∷◌, ◌++◌, length, map, Result, Ok, Err, Option, refl, sym, ap, subst, ◌∙◌, append_assoc, zero-add, suc, arith, inl, inr}
use Rattle.std.specs.Prelude.{◌⊎◌, not, ◌||◌, nat_lt, ◌&&◌, ◌==◌, IfOk, MatchResult}
use Rattle.std.specs.List.{All, list_all, zip}
use Rattle.std.specs.Str.{bytes_eq}
use Rattle.std.specs.Option.{ok_or}
use Rattle.std.specs.Str.Lines.{lines}
use Rattle.std.proofs.lemmas.Bool.{eqb-true, eqb-false, ltb-true, and_parts}
use Rattle.std.proofs.lemmas.List.{append-nil, length-append, length-map}
use Rattle.std.proofs.lemmas.List.Elements.{All-nil, All-cons, All-push}
use Rattle.std.proofs.lemmas.List.Sums.{sum_by-append, prefix_len-le-length}
use Rattle.oz_command.specs.Words.{is_blank, is_visible, words}
use Rattle.oz_script.specs.declared.draft.drafting.Draft.{Draft}
use Rattle.oz_script.specs.declared.draft.drafting.Entry.{Entry}
use Rattle.oz_script.specs.declared.draft.fault.Cause.TheVariants.{Long, Form, Many, Label}
use Rattle.oz_script.specs.declared.draft.fault.ScriptFault.{ScriptFault}
use Rattle.oz_script.specs.declared.draft.fault.ScriptFault.TheVariants.{At}
use Rattle.oz_script.specs.declared.draft.said.Said.{Said}
use Rattle.oz_script.specs.declared.lines.script.Line.{Line}
use Rattle.oz_script.specs.declared.placed.placed.PlacedScript.{PlacedScript}
use Rattle.oz_script.specs.draft.Drafts.{◌>>=◌, Fails, is_remark, count_in, client_place, is_opened, label_used, next_entry, with_client, longer, with_said, with_words, with_line, with_lines, draft_of}
use Rattle.oz_script.specs.lines.Numbered.{lines_of, AreNumbered, IsNumbered}
use Rattle.oz_script.specs.placed.Placed.{after_of, afters_of, line_with, placed_of}
use Rattle.oz_script.specs.draft.Said.{said_of}
use Rattle.oz_script.specs.draft.laws.Counts.{count-more}

abbrev Place : Type 0
Place = Option (ℕ × ℕ)

bind_ok : {A B : Type 0} (r : Result A ScriptFault) (f : A → Result B ScriptFault) (y : B) → (r >>= f) ≡ Ok y → (x : A) × (r ≡ Ok x) × (f x ≡ Ok y)
bind_ok (Ok x) f y e = (x, refl, e)
bind_ok (Err d) f y e = absurd cc

chosen : {A : Type 0} (b : Bool) (x y z : A) → cond b x y ≡ z → ((b ≡ true) × (x ≡ z)) ⊎ ((b ≡ false) × (y ≡ z))
chosen true x y z e = inl (refl, e)
chosen false x y z e = inr (refl, e)

-- ---- drafts

pub EntriesNumbered : List Entry → List Entry → Type 0
EntriesNumbered before [] = Unit {0}
EntriesNumbered before (entry ∷ rest) =
    (1 ≤ entry.client) × (entry.number ≡ count_in before entry.client + 1) × EntriesNumbered (before ++ entry ∷ []) rest

entries-push : (before entries : List Entry) (entry : Entry) → EntriesNumbered before entries → 1 ≤ entry.client → entry.number ≡ count_in (before ++ entries) entry.client + 1
    → EntriesNumbered before (entries ++ entry ∷ [])
unfolding EntriesNumbered
entries-push before [] entry n client number = (client, number ∙ ap (λ (l : List Entry). count_in l entry.client + 1) (append-nil before), tt)
entries-push before (first ∷ rest) entry n client number =
    (n.0, n.1, entries-push (before ++ first ∷ []) rest entry n.2 client (number ∙ ap (λ (l : List Entry). count_in l entry.client + 1) (sym (append_assoc before (first ∷ []) rest))))

pub record DraftNumbered (draft : Draft) : Type 0 where
  pub clients : length draft.clients ≤ 64
  pub few : length draft.entries ≤ 4096
  pub known : All (λ entry. entry.client ≤ length draft.clients) draft.entries
  pub in_order : EntriesNumbered [] draft.entries

clients-more : (clients : List (List ℕ)) (name : List ℕ) (new : Bool) (at : ℕ) → (at == length clients) ≡ new → at < 64 → length clients ≤ 64 → length (cond new (clients ++ name ∷ []) clients) ≤ 64
clients-more clients name true at e room few = omega (arith, eqb-true at (length clients) e, length-append clients (name ∷ []))
clients-more clients name false at e room few = few

-- a client of before is still one
clients-kept : (clients : List (List ℕ)) (name : List ℕ) (new : Bool) → length clients ≤ length (cond new (clients ++ name ∷ []) clients)
clients-kept clients name true = omega (arith, length-append clients (name ∷ []))
clients-kept clients name false = omega arith

-- the client that speaks is one
client-known : (clients : List (List ℕ)) (name : List ℕ) (new : Bool) (at : ℕ) → (at == length clients) ≡ new → at ≤ length clients → at + 1 ≤ length (cond new (clients ++ name ∷ []) clients)
client-known clients name true at e le = omega (arith, le, length-append clients (name ∷ []))
client-known clients name false at e le = let other : at ≢ length clients = eqb-false at (length clients) e in omega (arith, le, other)

at-most : (few more : ℕ) (entries : List Entry) → few ≤ more → All (λ (entry : Entry). entry.client ≤ few) entries → All (λ (entry : Entry). entry.client ≤ more) entries
at-most few more entries le known = λ (k : ℕ) (entry : Entry) (lt : k < length entries). let is = known k entry lt in omega (arith, is, le)

numbered-longer : (draft : Draft) (place : ℕ) (said : Said) → DraftNumbered draft → client_place draft.clients said.client < 64 → length draft.entries < 4096
    → DraftNumbered (longer draft place (client_place draft.clients said.client) said)
numbered-longer draft place said n room line_room = record {
  clients = clients-more draft.clients said.client (client_place draft.clients said.client == length draft.clients) (client_place draft.clients said.client) refl room n.clients;
  few = omega (arith, length-append draft.entries (next_entry draft place (client_place draft.clients said.client + 1) said ∷ []));
  known =
      let kept = clients-kept draft.clients said.client (client_place draft.clients said.client == length draft.clients) in
      let le : client_place draft.clients said.client ≤ length draft.clients = prefix_len-le-length (λ (client : List ℕ). not (bytes_eq client said.client)) draft.clients in
      All-push (λ (entry : Entry). entry.client ≤ length (with_client draft.clients said.client)) draft.entries (next_entry draft place (client_place draft.clients said.client + 1) said)
      (at-most (length draft.clients) (length (with_client draft.clients said.client)) draft.entries kept n.known)
      (client-known draft.clients said.client (client_place draft.clients said.client == length draft.clients) (client_place draft.clients said.client) refl le);
  in_order = entries-push [] draft.entries (next_entry draft place (client_place draft.clients said.client + 1) said) n.in_order (omega arith) refl;
}

numbered-said : (draft : Draft) (place : ℕ) (said : Said) (next : Draft) → DraftNumbered draft → with_said draft place said ≡ Ok next → DraftNumbered next
unfolding with_said
numbered-said draft place said next n e =
    let at = client_place draft.clients said.client in
    let made : Result Draft ScriptFault = Ok (longer draft place at said) in
    let found : Result Draft ScriptFault = Ok next in
    elim (chosen (nat_lt at 64 && nat_lt (length draft.entries) 4096) (cond (is_opened draft.entries (at + 1) (label_used said.command)) made (Err (At place Label))) (Err (At place Many)) found e) [
      | inl room ↦
          elim (chosen (is_opened draft.entries (at + 1) (label_used said.command)) made (Err (At place Label)) found room.1) [
            | inl known ↦
                let same : longer draft place at said ≡ next = cc in
                let parts = and_parts (nat_lt at 64) (nat_lt (length draft.entries) 4096) room.0 in
                subst DraftNumbered same (numbered-longer draft place said n (ltb-true at 64 parts.0) (ltb-true (length draft.entries) 4096 parts.1))
            | inr unknown ↦ absurd cc
          ]
      | inr full ↦ absurd cc
    ]

numbered-words : (draft : Draft) (place : ℕ) (said : List (List ℕ)) (next : Draft) → DraftNumbered draft → with_words draft place said ≡ Ok next → DraftNumbered next
unfolding with_words
numbered-words draft place [] next n e = let same : draft ≡ next = cc in subst DraftNumbered same n
numbered-words draft place (client ∷ words) next n e =
    let a = bind_ok (ok_or (said_of client words) (At place Form)) (λ said. with_said draft place said) next e in
    numbered-said draft place a.0 next n a.2

numbered-line : (draft : Draft) (place : ℕ) (line : List ℕ) (next : Draft) → DraftNumbered draft → with_line draft place line ≡ Ok next → DraftNumbered next
unfolding with_line
numbered-line draft place line next n e =
    let kept : Result Draft ScriptFault = Ok draft in
    let found : Result Draft ScriptFault = Ok next in
    elim (chosen (is_remark line) kept (cond (list_all (λ byte. is_blank byte || is_visible byte) line) (with_words draft place (words line)) (Err (At place Form))) found e) [
      | inl remark ↦ let same : draft ≡ next = cc in subst DraftNumbered same n
      | inr other ↦
          elim (chosen (list_all (λ byte. is_blank byte || is_visible byte) line) (with_words draft place (words line)) (Err (At place Form)) found other.1) [
            | inl plain ↦ numbered-words draft place (words line) next n plain.1
            | inr refused ↦ absurd cc
          ]
    ]

numbered-lines : (draft : Draft) (place : ℕ) (given : List (List ℕ)) (next : Draft) → DraftNumbered draft → with_lines draft place given ≡ Ok next → DraftNumbered next
unfolding with_lines
numbered-lines draft place [] next n e = let same : draft ≡ next = cc in subst DraftNumbered same n
numbered-lines draft place (line ∷ given) next n e =
    let a = bind_ok (with_line draft place line) (λ more. with_lines more (place + 1) given) next e in
    numbered-lines a.0 (place + 1) given next (numbered-line draft place line a.0 n a.1) a.2

pub numbered-draft : (bytes : List ℕ) (draft : Draft) → draft_of bytes ≡ Ok draft → DraftNumbered draft
unfolding draft_of EntriesNumbered
numbered-draft bytes draft e =
    let found : Result Draft ScriptFault = Ok draft in
    elim (chosen (nat_lt 1048576 (length bytes)) (Err (At 0 Long)) (with_lines (record { clients = []; entries = [] }) 1 (lines bytes)) found e) [
      | inl long ↦ absurd cc
      | inr short ↦ numbered-lines (record { clients = []; entries = [] }) 1 (lines bytes) draft (record { clients = omega arith; few = omega arith; known = All-nil (λ (entry : Entry). entry.client ≤ 0); in_order = tt }) short.1
    ]

-- ---- scripts

abbrev made : List Entry → List Place → List Line
made entries afters = map (λ pair. line_with pair.0 pair.1) (zip entries afters)

lines-more : (before : List Line) (line : Line) (client : ℕ) → lines_of (before ++ line ∷ []) client ≡ lines_of before client + cond (line.client == client) 1 0
lines-more before line client =
    sum_by-append (λ (e : Line). cond (e.client == client) 1 0) before (line ∷ [])
    ∙ ap (λ (n : ℕ). lines_of before client + n) (zero-add (cond (line.client == client) 1 0))

numbered-made : (draft : Draft) (entries before : List Entry) (lines_before : List Line) (afters : List Place) → EntriesNumbered before entries → afters_of draft entries ≡ Ok afters
    → ((client : ℕ) → lines_of lines_before client ≡ count_in before client) → AreNumbered lines_before (made entries afters) × (length (made entries afters) ≡ length entries)
unfolding EntriesNumbered afters_of
numbered-made draft [] before lines_before afters n e same = (tt, refl)
numbered-made draft (entry ∷ rest) before lines_before afters n e same =
    let a = bind_ok (after_of draft entry) (λ after. afters_of draft rest >>= λ more. Ok (after ∷ more)) afters e in
    let b = bind_ok (afters_of draft rest) (λ more. let r : Result (List Place) ScriptFault = Ok (a.0 ∷ more) in r) afters a.2 in
    let is : a.0 ∷ b.0 ≡ afters = cc in
    let more = numbered-made draft rest (before ++ entry ∷ []) (lines_before ++ line_with entry a.0 ∷ []) b.0 n.2 b.1
    (λ client. lines-more lines_before (line_with entry a.0) client ∙ ap (λ (k : ℕ). k + cond (entry.client == client) 1 0) (same client) ∙ sym (count-more before entry client)) in
    subst (λ (l : List Place). AreNumbered lines_before (made (entry ∷ rest) l) × (length (made (entry ∷ rest) l) ≡ length (entry ∷ rest))) is
    ((n.0, n.1 ∙ ap (λ (k : ℕ). k + 1) (sym (same entry.client)), more.0), ap suc more.1)

known-made : (few : ℕ) (entries : List Entry) (afters : List Place) → All (λ (entry : Entry). entry.client ≤ few) entries → All (λ (line : Line). line.client ≤ few) (made entries afters)
known-made few [] afters known = All-nil (λ (line : Line). line.client ≤ few)
known-made few (entry ∷ rest) [] known = All-nil (λ (line : Line). line.client ≤ few)
known-made few (entry ∷ rest) (after ∷ afters) known =
    All-cons (λ (line : Line). line.client ≤ few) (line_with entry after) (made rest afters) (known 0 entry (omega arith))
    (known-made few rest afters (λ (k : ℕ) (other : Entry) (lt : k < length rest). known (suc k) other (omega (arith, lt))))

pub numbered-placed : (draft : Draft) (placed : PlacedScript) → DraftNumbered draft → placed_of draft ≡ Ok placed → IsNumbered placed.script
unfolding placed_of
numbered-placed draft placed n e =
    let a = bind_ok (afters_of draft draft.entries) (λ afters. let r : Result PlacedScript ScriptFault = Ok (record { script = record { clients = draft.clients; lines = made draft.entries afters }; places = map (λ entry. entry.place) draft.entries }) in r) placed e in
    let same : record { script = record { clients = draft.clients; lines = made draft.entries a.0 }; places = map (λ entry. entry.place) draft.entries } ≡ placed = cc in
    let m = numbered-made draft draft.entries [] [] a.0 n.in_order a.1 (λ client. refl) in
    subst (λ (p : PlacedScript). IsNumbered p.script) same (record { clients = n.clients; few = omega (arith, n.few, m.1); known = known-made (length draft.clients) draft.entries a.0 n.known; in_order = m.0 })

pub numbered-read : (bytes : List ℕ) (draft : Draft) (result : Result PlacedScript ScriptFault) → draft_of bytes ≡ Ok draft
    → MatchResult result (λ placed. placed_of draft ≡ Ok placed) (λ fault. Fails fault (placed_of draft)) → IfOk result (λ placed. IsNumbered placed.script)
numbered-read bytes draft (Ok placed) e is = numbered-placed draft placed (numbered-draft bytes draft e) is
numbered-read bytes draft (Err fault) e is = tt

placed-each : (draft : Draft) (placed : PlacedScript) → DraftNumbered draft → placed_of draft ≡ Ok placed → length placed.places ≡ length placed.script.lines
unfolding placed_of
placed-each draft placed n e =
    let a = bind_ok (afters_of draft draft.entries) (λ afters. let r : Result PlacedScript ScriptFault = Ok (record { script = record { clients = draft.clients; lines = made draft.entries afters }; places = map (λ entry. entry.place) draft.entries }) in r) placed e in
    let same : record { script = record { clients = draft.clients; lines = made draft.entries a.0 }; places = map (λ entry. entry.place) draft.entries } ≡ placed = cc in
    let m = numbered-made draft draft.entries [] [] a.0 n.in_order a.1 (λ client. refl) in
    subst (λ (p : PlacedScript). length p.places ≡ length p.script.lines) same (length-map draft.entries (λ (entry : Entry). entry.place) ∙ sym m.1)

pub placed-read : (bytes : List ℕ) (draft : Draft) (result : Result PlacedScript ScriptFault) → draft_of bytes ≡ Ok draft
    → MatchResult result (λ placed. placed_of draft ≡ Ok placed) (λ fault. Fails fault (placed_of draft)) → IfOk result (λ placed. length placed.places ≡ length placed.script.lines)
placed-read bytes draft (Ok placed) e is = placed-each draft placed (numbered-draft bytes draft e) is
placed-read bytes draft (Err fault) e is = tt
