use Rattle.std.proofs.Common.{◌∙◌, ◌++◌, ap, append_assoc}
use Rattle.std.specs.Prelude.{codes}
use Rattle.std.proofs.lemmas.Result.{on_ok_weaker}
use Rattle.event_text.specs.Texts.{mouse_text}
use Rattle.event_text.proofs.push_pixel_mouse.Goals as goal

pub returns : goal.returns
returns c =
    let mouse = c.args.mouse.now in
    let place = mouse_text mouse.x_pixels mouse.y_pixels mouse.mouse_buttons mouse.modifiers in
    on_ok_weaker c.push_mouse.result (λ e. e ∙ ap (λ l. l ++ place) c.in_ok-push.ensures
    ∙ append_assoc c.args.out.now.items (codes "pixelmouse ") place) c.push_mouse.ensures
