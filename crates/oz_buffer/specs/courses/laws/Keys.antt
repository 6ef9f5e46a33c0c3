-- Different ids and lines have different numbers.
use Rattle.std.specs.Prelude.{ℕ, ◌≡◌, ◌<◌, ◌==◌, ◌&&◌, Bool, true, false}
use Rattle.std.proofs.Common.{refl, sym, ◌∙◌, ap, arith, eq-eqb}
use Rattle.std.proofs.lemmas.Bool.{eqb-true, and_parts}
use Rattle.oz_buffer.specs.courses.Courses.{line_key, id_key, IsWide}
use Rattle.oz_requests.specs.declared.request.AskId.{AskId}

both : (a b : Bool) → (a ≡ true → b ≡ true) → (b ≡ true → a ≡ true) → a ≡ b
both true true there back = refl
both true false there back = sym (there refl)
both false true there back = back refl
both false false there back = refl

pub line_keys : (client line other_client other_line : ℕ) → line < 65536 → other_line < 65536
    → (line_key client line == line_key other_client other_line) ≡ (client == other_client && line == other_line)
line_keys client line other_client other_line small other_small =
    both (line_key client line == line_key other_client other_line) (client == other_client && line == other_line)
    (λ same.
    let equal = eqb-true (line_key client line) (line_key other_client other_line) same in
    let one : client ≡ other_client = omega (arith, equal, small, other_small) in
    let two : line ≡ other_line = omega (arith, equal, small, other_small) in
    ap (λ b. b && (line == other_line)) (eq-eqb client other_client one) ∙ eq-eqb line other_line two)
    (λ same.
    let parts = and_parts (client == other_client) (line == other_line) same in
    let one = eqb-true client other_client parts.0 in
    let two = eqb-true line other_line parts.1 in
    eq-eqb (line_key client line) (line_key other_client other_line) (omega (arith, one, two)))

pub id_keys : (id other : AskId) → IsWide id → IsWide other
    → (id_key id == id_key other) ≡ (id.client == other.client && id.line == other.line && id.step == other.step)
id_keys id other wide other_wide =
    both (id_key id == id_key other) (id.client == other.client && id.line == other.line && id.step == other.step)
    (λ same.
    let equal = eqb-true (id_key id) (id_key other) same in
    let a = wide.line in let b = wide.step in let c = other_wide.line in let d = other_wide.step in
    let lines : line_key id.client id.line ≡ line_key other.client other.line = omega (arith, equal, b, d) in
    let one : id.client ≡ other.client = omega (arith, lines, a, c) in
    let two : id.line ≡ other.line = omega (arith, lines, a, c) in
    let three : id.step ≡ other.step = omega (arith, equal, b, d) in
    ap (λ x. x && id.line == other.line && id.step == other.step) (eq-eqb id.client other.client one)
    ∙ (ap (λ x. x && id.step == other.step) (eq-eqb id.line other.line two) ∙ eq-eqb id.step other.step three))
    (λ same.
    let parts = and_parts (id.client == other.client && id.line == other.line) (id.step == other.step) same in
    let front = and_parts (id.client == other.client) (id.line == other.line) parts.0 in
    let one = eqb-true id.client other.client front.0 in
    let two = eqb-true id.line other.line front.1 in
    let three = eqb-true id.step other.step parts.1 in
    eq-eqb (id_key id) (id_key other) (omega (arith, one, two, three)))
