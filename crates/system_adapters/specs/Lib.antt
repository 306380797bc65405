pub mod FileTold
