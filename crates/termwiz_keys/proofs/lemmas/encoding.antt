pub mod NormalForm
