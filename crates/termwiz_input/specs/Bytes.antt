-- Words on texts, and the bytes that sequences and pastes begin and end with.
pub use Rattle.termwiz_keymap.specs.Bytes.{Begins, Occurs}
pub use Rattle.termwiz_keys.specs.Introducers.{ESC, CSI, SS3, START, END}
