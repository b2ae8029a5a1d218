pub mod EventEquality
pub mod VariantEquality
