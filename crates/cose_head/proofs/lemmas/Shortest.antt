pub mod ShortHeads
pub mod ShortItems
pub mod ShortLeast
