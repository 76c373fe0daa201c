pub mod StoreCode
