pub mod ShownFile
