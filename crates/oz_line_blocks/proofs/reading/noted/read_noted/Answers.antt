use Rattle.std.proofs.Common.{inl, sym, ◌∙◌, arith, rules}
use Rattle.std.proofs.lemmas.Bool.{false≢true}
use Rattle.oz_line_blocks.proofs.reading.noted.read_noted.Goals as goal

pub new-noter-requires-clause-knows : goal.new-noter-requires-clause-knows
new-noter-requires-clause-knows g c = record {
  may = λ coherent story begins all.
      let named = (c.requires.may coherent).named story begins all in
      record {
        named = inl named.0;
        started = λ own. absurd (false≢true (sym named.1 ∙ own));
        piece = λ some. absurd (omega (arith, some));
      };
  most = omega arith;
}

pub returns-clause-given : goal.returns-clause-given
returns-clause-given g c =
    let it = c.in_ok-given.ensures.given in (
      record { said = it.0; told_so = search rules; goes = search rules; given_so = search rules },
      it.1.0.1,
    )
