pub mod EventLines
pub mod SameLists
pub mod ToldLines
