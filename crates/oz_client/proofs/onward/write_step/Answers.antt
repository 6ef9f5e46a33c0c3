use Rattle.std.proofs.Common.{◌≡◌, ℕ, ◌<◌, ◌*◌, ◌-◌, length, min, ◌∙◌, ap, arith}
use Rattle.std.proofs.lemmas.List.{length-replicate}
use Rattle.oz_command.specs.Payload.{data_length}
use Rattle.oz_nodes.specs.Pipelines.{members_of}
use Rattle.oz_steps.specs.Grants.{written_blocks}
use Rattle.oz_client.proofs.Placing.{place-within, writes}
use Rattle.oz_client.proofs.onward.write_step.Goals as goal

pub overflow_mul-first : goal.overflow_mul-first
overflow_mul-first c =
    let written : c.in_ok-written.written.items ≡ written_blocks c.args.progress.now.came.attempts = c.in_ok-written.ensures ∙ ap written_blocks c.items.ensures in
    let place : 65536 * length (written_blocks c.args.progress.now.came.attempts) < data_length c.args.command.now = place-within c.args.command.now (length (written_blocks c.args.progress.now.came.attempts)) (c.requires.ready.writing c.args.granted c.requires.its).more in
    let product : c.from.result * c.len.result ≡ 65536 * c.len.result = ap (λ (n : ℕ). n * c.len.result) c.from.ensures in
    omega (arith, place, product, ap length written, c.in_ok-written.written.ok.0, c.data_length-bytes.ensures, c.len.ensures)

pub returns : goal.returns
returns c =
    let written : c.in_ok-written.written.items ≡ written_blocks c.args.progress.now.came.attempts = c.in_ok-written.ensures ∙ ap written_blocks c.items.ensures in
    let count : c.len.result ≡ length (written_blocks c.args.progress.now.came.attempts) = omega (arith, ap length written, c.in_ok-written.written.ok.0, c.len.ensures) in
    let place : c.from.result * c.len.result ≡ 65536 * length (written_blocks c.args.progress.now.came.attempts) = ap (λ (n : ℕ). n * c.len.result) c.from.ensures ∙ ap (λ (n : ℕ). 65536 * n) count in
    let size : c.min-length.result ≡ min (data_length c.args.command.now - c.from.result * c.len.result) 65536 = c.min-length.ensures ∙ (ap (λ (n : ℕ). min (n - c.from.result * c.len.result) c.from-2.result) c.data_length-bytes.ensures ∙ ap (min (data_length c.args.command.now - c.from.result * c.len.result)) c.from-2.ensures) in
    let of_pipeline : c.members-members.result ≡ members_of c.args.progress.now.nodes c.args.granted.pipeline = c.members-members.ensures.members ∙ (ap (λ ups. members_of (length ups) c.args.granted.pipeline) c.new.ensures ∙ ap (λ (n : ℕ). members_of n c.args.granted.pipeline) (length-replicate c.args.progress.now.nodes _)) in
    writes c.args.command.now c.args.progress.now c.args.granted c.members-members.result (c.from.result * c.len.result) c.min-length.result c.requires.its of_pipeline place size
