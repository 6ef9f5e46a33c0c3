use Rattle.std.proofs.Common.{◌≡◌, ⊎_elim, inl, inr, ℕ, ◌+◌, ◌-◌, Bool, true, false, cond, length, drop, refl, sym, ap, ◌∙◌, subst, arith}
use Rattle.std.proofs.lemmas.Bool.{false≢true}
use Rattle.oz_buffer.specs.Became.{times_said}
use Rattle.oz_turn.specs.Seat.{seen_of}
use Rattle.oz_underway.specs.UnderWay.{HaveAnswered}
use Rattle.oz_underway.specs.laws.Going.{begins_through}
use Rattle.oz_line_blocks.specs.writing.Written.{IsStill, is_quorum}
use Rattle.oz_line_blocks.proofs.writing_lemmas.Behind.{all_came_longer, all_or_had, answered_whole}
use Rattle.oz_line_blocks.proofs.writing_lemmas.Causes.{unknown_of}
use Rattle.oz_line_blocks.proofs.writing_lemmas.Standing.{all_answered_later}
use Rattle.oz_line_blocks.proofs.writing.writing.write_to_members.Goals as goal

pub returns-then-not-have_answered-clause-unknown : goal.returns-then-not-have_answered-clause-unknown
returns-then-not-have_answered-clause-unknown g c =
    let O = g.O.Opened in
    let seen = seen_of c.args.seat.now in
    let later = seen_of c.have_answered.new.seat in
    let answers = c.in-Ok.written.answers in
    let put : c.args.said + 3 ≡ c.in-Some.wrote - 1 = omega (arith, c.in-Some.ensures) in
    let all = all_came_longer O.coherent O.opening c.args.id c.args.block seen (seen_of c.write_noted-noted.new.seat) later
    c.write_noted-noted.ensures.looked.goes_on c.have_answered.ensures.looked.goes_on c.args.members answers c.in-Ok.ensures.came in
    inr (⊎_elim
    (λ have. inr (record {
      answers = answers;
      answered = answered_whole c.args.id c.args.block (length seen) later c.args.members answers have;
      other = inl (λ still. false≢true (c.if-not-have_answered.ensures.still.1 (
        subst (λ (n : ℕ). IsStill c.args.id n later) put still,
        subst (λ (n : ℕ). HaveAnswered (drop n later) c.args.id c.args.block c.args.members answers) (sym c.requires.from) have,
      )));
    }))
    (λ had. inl had)
    (all_or_had O.coherent O.opening c.args.id c.args.block c.args.members answers (drop (length seen) later) later all))

pub tell_wrote-requires-clause-follows : goal.tell_wrote-requires-clause-follows
tell_wrote-requires-clause-follows g c story begins all now =
    let later = seen_of c.have_answered.new.seat in
    let looked = begins_through later (seen_of c.write_noted-noted.new.seat) (seen_of c.args.seat.now) c.have_answered.ensures.looked.goes_on c.write_noted-noted.ensures.looked.goes_on in
    let whole = begins_through story later (seen_of c.args.seat.now) begins looked in
    let so : times_said c.args.id.client c.args.id.line story ≡ c.args.said + 3 = omega (arith, now, c.in-Some.ensures) in
    let have = all_answered_later c.args.id c.args.block story later begins c.args.members c.in-Ok.written.answers
    (answered_whole c.args.id c.args.block c.args.from later c.args.members c.in-Ok.written.answers (c.if-not-have_answered.ensures.still.0 refl).1) in
    let may = λ (coherent : g.O.Opened.coherent). c.requires.may coherent story c.in-Ok.written.answers whole all so have (sym c.if-not-two_put_it.ensures) in
    record { of_seat = tt; enabled = λ coherent. (may coherent).enabled coherent; fits = λ coherent. (may coherent).fits coherent }

pub returns-then-not-two_put_it-clause-written : goal.returns-then-not-two_put_it-clause-written
returns-then-not-two_put_it-clause-written g c =
    let later = seen_of c.have_answered.new.seat in
    let stands = c.if-not-have_answered.ensures.still.0 refl in
    let few : is_quorum c.in-Ok.written.answers ≡ false = sym c.if-not-two_put_it.ensures in
    let put : c.in-Some.wrote - 1 ≡ c.args.said + 3 = omega (arith, c.in-Some.ensures) in
    record {
      answered = answered_whole c.args.id c.args.block c.args.from later c.args.members c.in-Ok.written.answers stands.1;
      still = stands.0;
      more = put ∙ sym (ap (λ (t : Bool). cond t (c.args.said + 4) (c.args.said + 3)) few);
      written = λ it. absurd (false≢true (sym few ∙ it));
    }

pub returns-in-Ok-tell_wrote-clause-written : goal.returns-in-Ok-tell_wrote-clause-written
returns-in-Ok-tell_wrote-clause-written g c =
    let later = seen_of c.have_answered.new.seat in
    let two : is_quorum c.in-Ok.written.answers ≡ true = sym c.if-not-two_put_it.ensures in
    let wrote : c.in-Some.wrote ≡ c.args.said + 4 = omega (arith, c.in-Some.ensures) in
    record {
      answered =
          all_answered_later c.args.id c.args.block (seen_of c.tell_wrote.new.seat) later c.tell_wrote.ensures.went.goes_on c.args.members c.in-Ok.written.answers
          (answered_whole c.args.id c.args.block c.args.from later c.args.members c.in-Ok.written.answers (c.if-not-have_answered.ensures.still.0 refl).1);
      still = c.in-Ok-tell_wrote.ensures.still;
      more = wrote ∙ sym (ap (λ (t : Bool). cond t (c.args.said + 4) (c.args.said + 3)) two);
      written = λ it. c.in-Ok-tell_wrote.ensures.written;
    }

pub returns-in-Err-tell_wrote-clause-unknown : goal.returns-in-Err-tell_wrote-clause-unknown
returns-in-Err-tell_wrote-clause-unknown g c =
    let O = g.O.Opened in
    let later = seen_of c.have_answered.new.seat in
    let put : c.in-Some.wrote - 1 ≡ c.args.said + 3 = omega (arith, c.in-Some.ensures) in
    let wrote : c.in-Some.wrote ≡ c.args.said + 4 = omega (arith, c.in-Some.ensures) in
    unknown_of O.coherent O.opening c.args.id c.args.block c.args.members c.args.said (c.in-Some.wrote - 1) c.in-Some.wrote c.in-Ok.written.answers (seen_of c.args.seat.now)
    (seen_of c.tell_wrote.new.seat) put wrote
    (all_answered_later c.args.id c.args.block (seen_of c.tell_wrote.new.seat) later c.tell_wrote.ensures.went.goes_on c.args.members c.in-Ok.written.answers
    (answered_whole c.args.id c.args.block c.args.from later c.args.members c.in-Ok.written.answers (c.if-not-have_answered.ensures.still.0 refl).1))
    c.in-Err-tell_wrote.error c.in-Err-tell_wrote.ensures.untold
