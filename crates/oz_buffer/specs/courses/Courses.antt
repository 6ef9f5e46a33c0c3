-- What became of ids, lines, clients and datanodes.
use Rattle.std.specs.Prelude.{ℕ, ◌+◌, ◌*◌, ◌<◌, max, true, false, Bool, List, Option, None, Some}
use Rattle.std.specs.Ordering.{nat_cmp}
use Rattle.oz_buffer.specs.declared.courses.course.Course.{Course}
use Rattle.oz_buffer.specs.declared.courses.course.LineCourse.{LineCourse}
use Rattle.oz_buffer.specs.declared.courses.course.NodeCourse.{NodeCourse}
use Rattle.oz_requests.specs.declared.request.AskId.{AskId}
use Rattle.oz_sorted.specs.Sorted.{value_of}
use Rattle.oz_sorted.specs.declared.entry.Entry.{Entry}

-- What contracts see: courses by the numbers of ids, lines, clients and datanodes, and how many things more may become of one of them
-- without a refusal.
pub record Kept : Type 0 where
  pub ids : List (Entry ℕ Course)
  pub lines : List (Entry ℕ LineCourse)
  pub clients : List (Entry ℕ ℕ)
  pub nodes : List (Entry ℕ NodeCourse)
  pub spare : ℕ

-- ids and lines as numbers
abbrev pub line_key : ℕ → ℕ → ℕ
line_key client line = client * 65536 + line

abbrev pub id_key : AskId → ℕ
id_key id = line_key id.client id.line * 65536 + id.step

-- its fields are of two bytes, as those of each id in memory are
pub record IsWide (id : AskId) : Type 0 where
  pub line : id.line < 65536
  pub step : id.step < 65536

-- what became of one of which nothing is kept
abbrev pub unasked : Course
unasked = record { asked = false; pending = false; late = false; index = None }

abbrev pub unasked_line : LineCourse
unasked_line = record { ask = None; index = 0; told = false; said = 0 }

-- a datanode of which nothing was told is up and runs
abbrev pub untouched : NodeCourse
untouched = record { halted = None; up = true; started = true }

abbrev pub or_else : {X : Type 0} → Option X → X → X
or_else None other = other
or_else (Some x) other = x

abbrev pub course_at : Kept → ℕ → Course
course_at kept key = or_else (value_of nat_cmp kept.ids key) unasked

abbrev pub line_at : Kept → ℕ → LineCourse
line_at kept key = or_else (value_of nat_cmp kept.lines key) unasked_line

-- how many lines a client was told
abbrev pub told_at : Kept → ℕ → ℕ
told_at kept client = or_else (value_of nat_cmp kept.clients client) 0

abbrev pub node_at : Kept → ℕ → NodeCourse
node_at kept dn = or_else (value_of nat_cmp kept.nodes dn) untouched

-- one thing more
abbrev pub asked_course : Bool → Course → Course
asked_course late course = record { asked = true; pending = true; late = late; index = course.index }

abbrev pub decided_course : ℕ → Course → Course
decided_course index course = record { asked = course.asked; pending = false; late = course.late; index = Some index }

abbrev pub asked_line : AskId → LineCourse → LineCourse
asked_line id line = record { ask = Some id; index = line.index; told = line.told; said = line.said }

abbrev pub decided_line : ℕ → LineCourse → LineCourse
decided_line index line = record { ask = line.ask; index = max line.index index; told = line.told; said = line.said }

abbrev pub told_line : LineCourse → LineCourse
told_line line = record { ask = line.ask; index = line.index; told = true; said = line.said }

abbrev pub said_line : LineCourse → LineCourse
said_line line = record { ask = line.ask; index = line.index; told = line.told; said = line.said + 1 }
