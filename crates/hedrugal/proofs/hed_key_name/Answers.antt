use Rattle.std.proofs.Common.{◌∙◌, ◌++◌, [], ◌∷◌, ap, length}
use Rattle.hedrugal.specs.Calls.{copied}
use Rattle.hedrugal.proofs.KeyNumbers.{name_of}
use Rattle.hedrugal.proofs.hed_key_name.Goals as goal

pub returns-in-Some-clause-len : goal.returns-in-Some-clause-len
returns-in-Some-clause-len c = λ key is.
    c.copy_with_zero.ensures.len ∙ ap length (c.as_bytes.ensures.value ∙ c.variant_name.ensures
    ∙ name_of c.in-Some.named key (c.in-Some.ensures.every key is))

pub returns-in-Some-clause-bytes : goal.returns-in-Some-clause-bytes
returns-in-Some-clause-bytes c = λ key is.
    c.copy_with_zero.ensures.bytes
    ∙ ap (λ name. copied (name ++ (0 ∷ [])) c.args.out.now) (c.as_bytes.ensures.value ∙ c.variant_name.ensures
    ∙ name_of c.in-Some.named key (c.in-Some.ensures.every key is))
