pub mod ActionKey
pub mod Laws
pub mod Line
pub mod Print
pub mod Token
