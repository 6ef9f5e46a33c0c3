use Rattle.std.proofs.Common.{◌≡◌, ◌≢◌, ℕ, Bool, true, false, None, refl, sym, ◌∙◌, arith, below_more}
use Rattle.std.proofs.lemmas.Bool.{false≢true}
use Rattle.oz_core.specs.declared.event.Node.TheVariants.{Datanode}
use Rattle.oz_core.specs.Manager.{halt_of}
use Rattle.oz_core.specs.Scm.{is_up}
use Rattle.oz_asker.proofs.telling.halted.first_left_up.Goals as goal

is_down : (up : Bool) → (up ≡ true → ⊥) → up ≡ false
is_down true none = absurd (none refl)
is_down false none = refl

pub loop-dn-init : goal.loop-dn-init
loop-dn-init g c = record { down = λ dn less some. absurd (omega (arith, less)) }

pub loop-dn-preserved : goal.loop-dn-preserved
loop-dn-preserved g c =
    let story = c.args.ledger.now.story in
    record {
      down = below_more (λ (dn : ℕ). halt_of (Datanode dn) story ≢ None → is_up dn story ≡ false) c.loop-dn.dn c.loop-dn.invariant.down
          (λ some. is_down (is_up c.loop-dn.dn story) (λ up. false≢true (sym c.if-is_left_up.false ∙ c.is_left_up.ensures.1 (some, up))));
    }

pub returns-clause-down : goal.returns-clause-down
returns-clause-down g c = λ dn less some. c.loop-dn.invariant.down dn (omega (arith, less, c.loop-dn-test.false)) some
