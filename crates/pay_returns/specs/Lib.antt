pub mod References
pub mod Opposite
pub mod Origins
pub mod Equal
pub mod Returns
pub mod Making
pub mod Laws
pub mod inner
