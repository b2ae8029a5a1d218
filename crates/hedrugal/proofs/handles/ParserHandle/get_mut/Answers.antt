use Rattle.std.proofs.Common.{◌≡◌, Some, None, IfSome, IfNone, sym, ap, subst}
use borrow.Follows.Closed.{read_of}
use Rattle.core.specs.Option.{ghost_name_of}
use Rattle.hedrugal.specs.LentIf.{holding}
use Rattle.hedrugal.specs.Views.{parser_of}
use Rattle.hedrugal.proofs.Lending.{each}
use Rattle.hedrugal.proofs.handles.ParserHandle.get_mut.Goals as goal

-- what is lent is what the view lends, and the view has the same fields
pub returns : goal.returns
returns c =
    let same = c.view.ensures.same in let lent = c.get_mut.result in let self = c.args.self.now in
    let some = subst (λ view. IfSome lent (λ held. view.slot.held ≡ Some held.now)) same c.get_mut.ensures.some in (
      ap (λ view. read_of (ghost_name_of lent) (λ held. parser_of (holding view held)) (parser_of view)) same,
      record {
        writes_back = tt;
        some = some;
        whole = each lent some (λ held is. ap (λ o. record self.state { held = o }) (sym is));
        none = subst (λ view. IfNone lent (view.slot.held ≡ None)) same c.get_mut.ensures.none;
      },
    )
