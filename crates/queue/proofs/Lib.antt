pub mod Drains
pub mod Lexical
pub mod Orders
pub mod Overwriting
pub mod PushPop
pub mod Sorting
