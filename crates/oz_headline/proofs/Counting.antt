-- Who was told as many lines as it has was told all of them.
use Rattle.std.proofs.Common.{◌≡◌, ⊎_elim, ℕ, suc, ◌≤◌, ◌<◌, Bool, true, false, ◌==◌, cond, List, [], ◌∷◌, ◌++◌, map, filter, length, All, refl, sym, ap, ◌∙◌, append-nil, length-append, arith}
use Rattle.std.proofs.lemmas.Bool.{cases_lt, eqb-true}
use Rattle.oz_core.specs.declared.event.Event.{Event}
use Rattle.oz_core.specs.declared.opening.Opening.{Opening}
use Rattle.oz_core.specs.Contents.{OpeningBytes}
use Rattle.oz_core.specs.Fits.{AllAreTold, Fits, line_numbers, told_lines}
use Rattle.oz_script.specs.declared.lines.script.Line.{Line}
use Rattle.oz_script.specs.declared.lines.script.Script.{Script}
use Rattle.oz_script.specs.lines.Numbered.{AreNumbered, IsNumbered}
use Rattle.oz_headline.specs.Counts.{AreToldAsMany, IsClient}

nothing_in : {X : Type 0} (l : List X) → length l ≡ 0 → l ≡ []
nothing_in [] none = refl
nothing_in (x ∷ l) none = absurd (omega (arith, none))

front_is_all : {X : Type 0} (all front rest : List X) → all ≡ front ++ rest → length front ≡ length all → front ≡ all
front_is_all all front rest parts same =
    let none = nothing_in rest (omega (arith, same, ap length parts, length-append front rest)) in
    sym (parts ∙ (ap (λ l. front ++ l) none ∙ append-nil front))

front_of_none : {X : Type 0} (all front rest : List X) → all ≡ front ++ rest → all ≡ [] → front ≡ []
front_of_none all front rest parts none =
    nothing_in front (omega (arith, ap length parts, ap length none, length-append front rest))

-- no line is of a client that the script hasn't
others_in : (client most : ℕ) → ((1 ≤ client) → client ≤ most → ⊥) → (lines before : List Line) → AreNumbered before lines
    → All (λ (line : Line). line.client ≤ most) lines → filter (λ (line : Line). line.client == client) lines ≡ []
others_in client most other [] before numbered known = refl
others_in client most other (line ∷ lines) before numbered known =
    by (line.client == client) refl
    (others_in client most other lines (before ++ line ∷ []) numbered.2 (λ k d lt. known (suc k) d (omega (arith, lt))))
  where
    by : (t : Bool) → (line.client == client) ≡ t → filter (λ (l : Line). l.client == client) lines ≡ [] → filter (λ (l : Line). l.client == client) (line ∷ lines) ≡ []
    by true its rest =
        let same = eqb-true line.client client its in
        absurd (other (omega (arith, numbered.0, same)) (omega (arith, known 0 line (omega arith), same)))
    by false apart rest =
        ap (λ (t : Bool). cond t (line ∷ filter (λ (l : Line). l.client == client) lines) (filter (λ (l : Line). l.client == client) lines)) apart ∙ rest

module _ (opening : Opening) (bytes : OpeningBytes) (script : Script) (story : List Event) (numbered : IsNumbered script) (fits : Fits opening bytes script story) where
  pub others : (client : ℕ) → (IsClient script client → ⊥) → (line_numbers script client ≡ []) × (told_lines client story ≡ [])
  others client other =
      let none : line_numbers script client ≡ [] =
      ap (map (λ (line : Line). line.number))
      (others_in client (length script.clients) (λ some within. other (record { some = some; within = within })) script.lines [] numbered.in_order numbered.known) in
      let front = fits.in_order client in
      (none, front_of_none (line_numbers script client) (told_lines client story) front.0 front.1 none)

  pub all_told : AreToldAsMany script story → AllAreTold script story
  all_told many client = ⊎_elim
      (λ (above : length script.clients < client). none (λ its. omega (arith, its.within, above)))
      (λ within. ⊎_elim
      (λ (some : 0 < client).
      let front = fits.in_order client in
      front_is_all (line_numbers script client) (told_lines client story) front.0 front.1
      (many client (record { some = omega (arith, some); within = within })))
      (λ zero. none (λ its. omega (arith, its.some, zero)))
      (cases_lt 0 client))
      (cases_lt (length script.clients) client)
    where
      none : (IsClient script client → ⊥) → told_lines client story ≡ line_numbers script client
      none other = let both = others client other in both.1 ∙ sym both.0
