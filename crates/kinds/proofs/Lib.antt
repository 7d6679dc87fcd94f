pub mod LastingLaws
