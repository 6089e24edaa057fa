pub mod Toward
pub mod TwoBooks
pub mod Notices
pub mod Texts
pub mod Worked
pub mod TwoLaws
pub mod NoticeLaws
