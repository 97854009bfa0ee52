pub mod FileBook
