pub mod BoundTexts
pub mod SasTexts
