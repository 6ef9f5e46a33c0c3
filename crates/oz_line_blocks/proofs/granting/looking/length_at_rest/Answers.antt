use Rattle.std.proofs.Common.{◌≡◌, take, sym, ap, ◌∙◌, arith}
use Rattle.oz_core.specs.Seats.{scm_seat}
use Rattle.oz_turn.specs.Seat.{seen_of}
use Rattle.oz_line_blocks.proofs.granting_lemmas.Still.{between, longer, own, take_begun}
use Rattle.oz_line_blocks.proofs.granting.looking.length_at_rest.Goals as goal

pub returns-clause-within : goal.returns-clause-within
returns-clause-within g c =
    let long = longer (seen_of c.show.new.seat) (seen_of c.story_length-length.new.seat) c.show.ensures.begins in
    omega (arith, long, c.story_length-length.ensures.length)

pub returns-clause-all : goal.returns-clause-all
returns-clause-all g c =
    let first = seen_of c.args.seat.now in
    let mid = seen_of c.story_length-length.new.seat in
    let last = seen_of c.show.new.seat in
    let is : take c.story_length-length.result last ≡ mid = take_begun last mid c.story_length-length.result c.show.ensures.begins c.story_length-length.ensures.length in
    let whole : own scm_seat last ≡ c.show.new.self.mine = c.show.ensures.shown in
    let same : own scm_seat last ≡ own scm_seat first = whole ∙ (c.show.ensures.same.1 ∙ sym c.requires.shown) in
    ap (own scm_seat) is
    ∙ (between scm_seat first mid last c.story_length-length.ensures.goes_on c.show.ensures.begins same
    ∙ (c.requires.shown ∙ sym c.show.ensures.same.1))
