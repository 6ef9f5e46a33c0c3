use Rattle.std.proofs.Common.{◌≡◌, ◌+◌, ◌∙◌, sym, refl, subst, arith}
use Rattle.std.specs.Prelude.{slice_set}
use Rattle.oz_script.specs.declared.draft.drafting.Draft.{Draft}
use Rattle.oz_script.specs.draft.Drafts.{count_in}
use Rattle.oz_script.specs.draft.Tracked.{IsTracked}
use Rattle.oz_script.proofs.draft_lemmas.Counting.{noted, tracked, same_default, count-le-length}
use Rattle.oz_script.proofs.draft.drafting.longer.Goals as goal

pub index-requires : goal.index-requires
index-requires c =
    let n = noted c.args.drafting.draft c.args.drafting.counts.items c.in_ok-clients.counts.items c.args.drafting.opened c.in_ok-clients.clients c.args.client c.args.said.client c.requires.tracked c.requires.client c.requires.client_room c.in_ok-clients.ensures.clients c.in_ok-clients.ensures.counts in
    omega (arith, n.long, n.within, c.in_ok-clients.counts.ok)

pub overflow_add-number : goal.overflow_add-number
overflow_add-number c =
    let n = noted c.args.drafting.draft c.args.drafting.counts.items c.in_ok-clients.counts.items c.args.drafting.opened c.in_ok-clients.clients c.args.client c.args.said.client c.requires.tracked c.requires.client c.requires.client_room c.in_ok-clients.ensures.clients c.in_ok-clients.ensures.counts in
    let is : c.index.result.now ≡ count_in c.args.drafting.draft.entries (c.args.client + 1) =
    c.index.ensures ∙ same_default c.in_ok-clients.counts.items c.args.client c.index.result.now 0 (omega (arith, n.long, n.within)) ∙ n.counted c.args.client in
    omega (arith, is, count-le-length c.args.drafting.draft.entries (c.args.client + 1))

pub index_mut-requires : goal.index_mut-requires
index_mut-requires c =
    let n = noted c.args.drafting.draft c.args.drafting.counts.items c.in_ok-clients.counts.items c.args.drafting.opened c.in_ok-clients.clients c.args.client c.args.said.client c.requires.tracked c.requires.client c.requires.client_room c.in_ok-clients.ensures.clients c.in_ok-clients.ensures.counts in
    omega (arith, n.long, n.within, c.in_ok-clients.counts.ok)

pub returns-clause-exact : goal.returns-clause-exact
returns-clause-exact c =
    let n = noted c.args.drafting.draft c.args.drafting.counts.items c.in_ok-clients.counts.items c.args.drafting.opened c.in_ok-clients.clients c.args.client c.args.said.client c.requires.tracked c.requires.client c.requires.client_room c.in_ok-clients.ensures.clients c.in_ok-clients.ensures.counts in
    let is : c.index.result.now ≡ count_in c.args.drafting.draft.entries (c.args.client + 1) =
    c.index.ensures ∙ same_default c.in_ok-clients.counts.items c.args.client c.index.result.now 0 (omega (arith, n.long, n.within)) ∙ n.counted c.args.client in
    rw (c.in_ok-clients.ensures.clients, c.in_ok-entries.ensures, is) refl

pub returns-clause-tracked : goal.returns-clause-tracked
returns-clause-tracked c =
    let n = noted c.args.drafting.draft c.args.drafting.counts.items c.in_ok-clients.counts.items c.args.drafting.opened c.in_ok-clients.clients c.args.client c.args.said.client c.requires.tracked c.requires.client c.requires.client_room c.in_ok-clients.ensures.clients c.in_ok-clients.ensures.counts in
    let is : c.index.result.now ≡ count_in c.args.drafting.draft.entries (c.args.client + 1) =
    c.index.ensures ∙ same_default c.in_ok-clients.counts.items c.args.client c.index.result.now 0 (omega (arith, n.long, n.within)) ∙ n.counted c.args.client in
    subst (λ (d : Draft). IsTracked d (slice_set c.in_ok-clients.counts.items c.args.client (c.index.result.now + 1)) c.in_ok-opened.opened) (sym (returns-clause-exact c))
    (tracked c.args.drafting.draft c.in_ok-clients.counts.items c.args.drafting.opened c.in_ok-opened.opened c.in_ok-clients.clients c.args.client c.index.result.now c.args.place c.args.said n c.in_ok-clients.ensures.clients is c.requires.tracked.labelled c.in_ok-opened.ensures)
