pub mod View
pub mod Members
pub mod Servers
pub mod Listed
pub mod Laws
pub mod MemberLaws
