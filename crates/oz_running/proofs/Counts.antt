-- The lines of a client, counted.
use Rattle.std.proofs.Common.{◌≡◌, ◌<◌, ◌≤◌, ℕ, ◌+◌, Bool, true, false, ◌==◌, cond, List, [], ◌∷◌, ◌++◌, filter, length, take, get_or, refl, sym, ap, ◌∙◌, arith}
use mir.Val.{bool_byte}
use Rattle.std.proofs.lemmas.List.{length-map, take_more}
use Rattle.std.proofs.lemmas.List.Sums.{length-filter, sum_by_push}
use Rattle.oz_core.specs.declared.event.Event.{Event}
use Rattle.oz_core.specs.Fits.{line_numbers, told_lines}
use Rattle.oz_script.specs.declared.lines.script.Line.{Line}
use Rattle.oz_script.specs.declared.lines.script.Script.{Script}
use Rattle.oz_script.specs.lines.Numbered.{lines_of}

pub line_next : (client : ℕ) (lines : List Line) (k : ℕ) (line : Line) → k < length lines → line ≡ get_or lines k line
    → lines_of (take (k + 1) lines) client ≡ lines_of (take k lines) client + cond (line.client == client) 1 0
line_next client lines k line lt is =
    ap (λ (l : List Line). lines_of l client) (take_more lines k line lt ∙ ap (λ (e : Line). take k lines ++ e ∷ []) (sym is))
    ∙ sum_by_push (λ (l : Line). cond (l.client == client) 1 0) (take k lines) line

-- a client has as many numbers as lines
numbers_counted : (script : Script) (client : ℕ) → length (line_numbers script client) ≡ lines_of script.lines client
numbers_counted script client =
    length-map (filter (λ (line : Line). line.client == client) script.lines) (λ (line : Line). line.number) ∙ length-filter (λ (line : Line). line.client == client) script.lines

-- a test as a number
pub bit_of : (n : ℕ) (b t : Bool) → n ≡ bool_byte b → b ≡ t → n ≡ cond t 1 0
bit_of n b t is same = is ∙ (ap bool_byte same ∙ by t)
  where
    by : (t : Bool) → bool_byte t ≡ cond t 1 0
    by true = refl
    by false = refl

pub bit_few : (n : ℕ) (b : Bool) → n ≡ bool_byte b → n ≤ 1
bit_few n true is = omega (arith, is)
bit_few n false is = omega (arith, is)

module _ (script : Script) (story : List Event) (client told count : ℕ) (lines : List Line) (told_is : told ≡ length (told_lines client story)) (count_is : count ≡ lines_of lines client)
    (are : lines ≡ script.lines) where
  pub as_many : told ≡ count → length (told_lines client story) ≡ length (line_numbers script client)
  as_many same = sym told_is ∙ (same ∙ (count_is ∙ (ap (λ (l : List Line). lines_of l client) are ∙ sym (numbers_counted script client))))

  pub same_count : length (told_lines client story) ≡ length (line_numbers script client) → told ≡ count
  same_count many = told_is ∙ (many ∙ (numbers_counted script client ∙ (ap (λ (l : List Line). lines_of l client) (sym are) ∙ sym count_is)))
