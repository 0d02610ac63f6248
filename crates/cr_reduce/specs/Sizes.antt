-- The measure: the size of a file, by its tokens.
pub use Rattle.cr_pool.specs.Sizes.{HasSize, IsMeasured, IsSmaller}
