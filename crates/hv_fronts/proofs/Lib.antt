pub mod BoundTexts
pub mod Parts
pub mod SasLines
pub mod SasFiles
pub mod SasTexts
