pub mod Anys
pub mod Apart
pub mod HiddenAlike
pub mod Memo
pub mod Outlined
pub mod Secrets
pub mod ShownAlike
