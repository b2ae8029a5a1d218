use denote.Struct.Struct.{exits_of}
use denote.Struct.Owning.{shape, fields, to}
use denote.Param.Send.{IsSend, owning_send, struct_send}
use Rattle.std_alloc.proofs.SendSync.{quiet}
use Rattle.hedrugal.specs.contracts.parser_and_text.ParserAndText as Held
use Rattle.hedrugal.specs.contracts.words.ParserWord.{the_row, the_type}
use Rattle.hedrugal.proofs.Crossing.{parser_and_text_send, owned_keyless, pointer_send}

pub send : IsSend the_row
send = owning_send the_type (pointer_send, tt) (λ d. owned_keyless Held.the_row parser_and_text_send d.pointer d.held)
    (λ k. quiet (to the_type) (exits_of k (fields the_type)) ((struct_send (shape the_type) (pointer_send, tt)).leaving k))
