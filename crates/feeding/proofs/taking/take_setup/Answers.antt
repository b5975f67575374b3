-- One line, where it has ended.
use mathlib.Core.Path.{◌≡◌, refl, ap, ◌∙◌}
use lib.ListN.{length, take}
use lib.Seq.{sets}
use Rattle.bus.specs.Setup.{SetupAnswer}
use Rattle.events.specs.declared.answers.Answer.{Answer}
use Rattle.text.specs.Frames.{SetupLine, setup_in}
use Rattle.session.specs.World.{reply_as, setup_answer, set_up_by, stage_after}
use Rattle.session.specs.declared.state.Session.{Session}
use Rattle.session.specs.declared.state.Stage.TheVariants.{Awaiting}
use Rattle.session.proofs.LineLaws.{setup_taken, not_taken}
use Rattle.feeding.proofs.taking.take_setup.Goals as goal

pub returns-then-end-rest : goal.returns-then-end-rest
returns-then-end-rest c =
    let from = c.args in
    let end = c.line_end-end.result in
    let line : SetupLine = setup_in (take end from.rest.now) in
    let next : c.session_after-next.result ≡ record { stage = stage_after (set_up_by line); bus = (set_up_by line).bus } =
    c.session_after-next.ensures ∙ ap (λ (given : SetupAnswer). record { stage = stage_after given; bus = given.bus }) c.set_up-given.ensures.bus in
    let answer : c.setup_answer.result ≡ setup_answer line.fault (set_up_by line) = c.setup_answer.ensures ∙ c.set_up-given.ensures.answer in
    let hands = setup_taken from.wanted from.bus from.rest.now from.out.now end c.line_end-end.ensures c.if-end-rest.true line (set_up_by line) _ _ refl refl
    (c.put_reply-written.ensures.put ∙ ap (λ (a : Answer). length (reply_as from.wanted a)) answer)
    (c.put_reply-written.ensures.left ∙ ap (λ (a : Answer). sets from.out.now 0 (reply_as from.wanted a)) answer) in
    rw (c.told.ensures, ap (λ (s : Session). s.stage) next, ap (λ (s : Session). s.bus) next) record { taken = hands.0; out_left = hands.1 }

pub returns-else-end-rest : goal.returns-else-end-rest
returns-else-end-rest c =
    rw c.told-else-end-rest.ensures (let hands = not_taken c.args.wanted Awaiting c.args.bus c.args.rest.now c.args.out.now c.line_end-end.result
    c.line_end-end.ensures c.if-end-rest.false in record { taken = hands.0; out_left = hands.1 })
