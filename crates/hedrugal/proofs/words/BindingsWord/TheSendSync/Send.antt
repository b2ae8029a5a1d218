use denote.Struct.Struct.{exits_of}
use denote.Struct.Owning.{shape, fields, to}
use denote.Param.Send.{IsSend, owning_send, struct_send}
use Rattle.std_alloc.proofs.SendSync.{quiet}
use Rattle.hedrugal.specs.contracts.chord_bindings.ChordBindings as Held
use Rattle.hedrugal.specs.contracts.words.BindingsWord.{the_row, the_type}
use Rattle.hedrugal.proofs.Crossing.{chord_bindings_send, owned_keyless, pointer_send}

pub send : IsSend the_row
send = owning_send the_type (pointer_send, tt) (λ d. owned_keyless Held.the_row chord_bindings_send d.pointer d.held)
    (λ k. quiet (to the_type) (exits_of k (fields the_type)) ((struct_send (shape the_type) (pointer_send, tt)).leaving k))
