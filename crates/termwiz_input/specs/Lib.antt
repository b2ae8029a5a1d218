pub mod Matches
pub mod Expiry
pub mod ExpiryLaws
pub mod Fronts
pub mod Bytes
pub mod Callbacks
pub mod HeldLengths
pub mod KeyBuckets
pub mod KeyPlaces
pub mod MouseReportAnswers
pub mod PasteSearch
pub mod Pieces
pub mod PrintableAscii
pub mod Promise
pub mod RefusalEquality
pub mod Time
pub mod TimeExamples
pub mod TimeLaws
pub mod WaitingBytes
pub use Rattle.termwiz_grammar.specs.MouseReports as MouseReports
pub use Rattle.termwiz_grammar.specs.Grammar as Grammar
pub use Rattle.termwiz_grammar.specs.Sequences as Sequences
pub use Rattle.termwiz_grammar.specs.Laws as Laws
pub use Rattle.termwiz_grammar.specs.Listed as Listed
pub use Rattle.termwiz_grammar.specs.ListedExamples as ListedExamples
pub use Rattle.termwiz_grammar.specs.PasteParts as PasteParts
pub use Rattle.termwiz_grammar.specs.Pauses as Pauses
pub use Rattle.termwiz_grammar.specs.RowsInOrder as RowsInOrder
pub use Rattle.termwiz_grammar.specs.Streams as Streams
pub use Rattle.termwiz_grammar.specs.Table as Table
pub use Rattle.termwiz_grammar.specs.WaitingKinds as WaitingKinds
pub use Rattle.termwiz_grammar.specs.declared.waiting.Waiting as Waiting
pub use Rattle.termwiz_keymap.specs.KeysInOrder as KeysInOrder
pub use Rattle.termwiz_keymap.specs.Lookup as Lookup
pub use Rattle.termwiz_keymap.specs.declared.keymap.Found as Found
pub use Rattle.termwiz_keymap.specs.declared.keymap.KeyMap as KeyMap
pub use Rattle.termwiz_keymap.specs.declared.readbuf.ReadBuffer as ReadBuffer
pub use Rattle.termwiz_keys.specs.Buttons as Buttons
pub use Rattle.termwiz_keys.specs.Encoding as Encoding
pub use Rattle.termwiz_keys.specs.Events as Events
pub use Rattle.termwiz_keys.specs.FunctionCodes as FunctionCodes
pub use Rattle.termwiz_keys.specs.KeyCodes as KeyCodes
pub use Rattle.termwiz_keys.specs.Keys as Keys
pub use Rattle.termwiz_keys.specs.declared.encode.EncodeError as EncodeError
pub use Rattle.termwiz_keys.specs.declared.encode.KeyCodeEncodeModes as KeyCodeEncodeModes
pub use Rattle.termwiz_keys.specs.declared.encode.KeyboardEncoding as KeyboardEncoding
pub use Rattle.termwiz_keys.specs.declared.types.InputEvent as InputEvent
pub use Rattle.termwiz_keys.specs.declared.types.KeyCode as KeyCode
pub use Rattle.termwiz_keys.specs.declared.types.KeyEvent as KeyEvent
pub use Rattle.termwiz_keys.specs.declared.types.MouseButtons as MouseButtons
pub use Rattle.termwiz_keys.specs.declared.types.MouseEvent as MouseEvent
pub use Rattle.termwiz_keys.specs.declared.types.PastedText as PastedText
pub use Rattle.termwiz_keys.specs.declared.types.PixelMouseEvent as PixelMouseEvent
