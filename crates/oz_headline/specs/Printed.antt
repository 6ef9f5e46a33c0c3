-- What is written after the work, by the status.
use Rattle.std.specs.Prelude.{◌≡◌, ◌⊎◌, ℕ, ◌≤◌, List, ◌++◌, codes, length, take, Option}
use Rattle.std.specs.Option.{option_map}
use Rattle.oz_core.specs.declared.event.Event.{Event}
use Rattle.oz_script.specs.declared.lines.script.Script.{Script}
use Rattle.oz_report.specs.Report.{report_of}
use Rattle.oz_headline.specs.declared.status.Status.{Status}
use Rattle.oz_headline.specs.declared.status.Status.TheVariants as ends

-- what is said where no memory is found
abbrev pub memory_fault : List ℕ
memory_fault = codes "out of memory\n"

-- the whole text is written
abbrev pub HoldsAll : List ℕ → Option (List ℕ) → Option (List ℕ) → Type 0
HoldsAll text before after = after ≡ option_map (λ held. held ++ text) before

-- a prefix of it is written, perhaps none or all of it
pub record HoldsPrefix (text : List ℕ) (before after : Option (List ℕ)) : Type 0 where
  pub count : ℕ
  pub within : count ≤ length text
  pub held : after ≡ option_map (λ held. held ++ take count text) before

-- the whole text is written, or a prefix of it where the sink failed
abbrev pub Says : List ℕ → Option (List ℕ) → Option (List ℕ) → Type 0 → Type 0
Says text before after rose = HoldsAll text before after ⊎ (HoldsPrefix text before after × rose)

-- A text is written after the work: by what the sink held before and holds after, and by whether its count of faults
-- rose. The other statuses come before the work.
abbrev pub IsWritten : Status → List ℕ → Option (List ℕ) → Option (List ℕ) → Type 0 → Type 0
IsWritten ends.Done text before after rose = HoldsAll text before after
IsWritten ends.Unwritten text before after rose = HoldsPrefix text before after × rose
IsWritten ends.Disk text before after rose = HoldsAll text before after
IsWritten ends.OutOfMemory text before after rose = Says text before after rose ⊎ Says memory_fault before after rose
IsWritten _ text before after rose = ⊥

-- the story is printed: what is written is its report
abbrev pub IsPrinted : Status → Script → List Event → Option (List ℕ) → Option (List ℕ) → Type 0 → Type 0
IsPrinted status script story before after rose =
    IsWritten status (report_of (length script.lines) story) before after rose
